-- The reserved words, and how each is written (ECMA-262, "Keywords and Reserved Words", and this project's own).
use Rattle.std.specs.Prelude.{ℕ, ◌==◌, List, [], ◌∷◌, codes, bytes_eq, Option, None, Some, if◌then◌else◌}
use Rattle.ob_base.specs.declared.reserved.ReservedWord.{ReservedWord}
use Rattle.ob_base.specs.declared.reserved.ReservedWord.TheVariants as word

-- the codes of a reserved word
unfoldable pub spelling : ReservedWord → List ℕ
spelling word.Arguments = codes "arguments"
spelling word.Async = codes "async"
spelling word.Await = codes "await"
spelling word.Break = codes "break"
spelling word.Case = codes "case"
spelling word.Catch = codes "catch"
spelling word.Class = codes "class"
spelling word.Const = codes "const"
spelling word.Continue = codes "continue"
spelling word.Debugger = codes "debugger"
spelling word.Default = codes "default"
spelling word.Delete = codes "delete"
spelling word.Do = codes "do"
spelling word.Else = codes "else"
spelling word.Enum = codes "enum"
spelling word.Export = codes "export"
spelling word.Extends = codes "extends"
spelling word.False = codes "false"
spelling word.Finally = codes "finally"
spelling word.For = codes "for"
spelling word.Function = codes "function"
spelling word.If = codes "if"
spelling word.Import = codes "import"
spelling word.In = codes "in"
spelling word.Instanceof = codes "instanceof"
spelling word.Let = codes "let"
spelling word.Mutable = codes "mutable"
spelling word.New = codes "new"
spelling word.Null = codes "null"
spelling word.Return = codes "return"
spelling word.Static = codes "static"
spelling word.Super = codes "super"
spelling word.Switch = codes "switch"
spelling word.This = codes "this"
spelling word.Throw = codes "throw"
spelling word.True = codes "true"
spelling word.Try = codes "try"
spelling word.Typeof = codes "typeof"
spelling word.Undefined = codes "undefined"
spelling word.Var = codes "var"
spelling word.Viewof = codes "viewof"
spelling word.Void = codes "void"
spelling word.While = codes "while"
spelling word.With = codes "with"
spelling word.Yield = codes "yield"

-- each reserved word
abbrev pub every_word : List ReservedWord
every_word =
    word.Arguments ∷ word.Async ∷ word.Await ∷ word.Break ∷ word.Case ∷ word.Catch ∷ word.Class ∷ word.Const
    ∷ word.Continue ∷ word.Debugger ∷ word.Default ∷ word.Delete ∷ word.Do ∷ word.Else ∷ word.Enum ∷ word.Export
    ∷ word.Extends ∷ word.False ∷ word.Finally ∷ word.For ∷ word.Function ∷ word.If ∷ word.Import ∷ word.In
    ∷ word.Instanceof ∷ word.Let ∷ word.Mutable ∷ word.New ∷ word.Null ∷ word.Return ∷ word.Static ∷ word.Super
    ∷ word.Switch ∷ word.This ∷ word.Throw ∷ word.True ∷ word.Try ∷ word.Typeof ∷ word.Undefined ∷ word.Var
    ∷ word.Viewof ∷ word.Void ∷ word.While ∷ word.With ∷ word.Yield ∷ []

abbrev pub find_word : List ReservedWord → List ℕ → Option ReservedWord
find_word [] codes = None
find_word (w ∷ ws) codes = if bytes_eq (spelling w) codes then Some w else find_word ws codes

-- the reserved word of these codes: bytes, characters or UTF-16 units, since each is ASCII
unfoldable pub reserved_word : List ℕ → Option ReservedWord
reserved_word codes = find_word every_word codes

-- those that begin with a letter
unfoldable pub words_of : ℕ → List ReservedWord
words_of c =
    if c == 97 then word.Arguments ∷ word.Async ∷ word.Await ∷ []
    else if c == 98 then word.Break ∷ []
    else if c == 99 then word.Case ∷ word.Catch ∷ word.Class ∷ word.Const ∷ word.Continue ∷ []
    else if c == 100 then word.Debugger ∷ word.Default ∷ word.Delete ∷ word.Do ∷ []
    else if c == 101 then word.Else ∷ word.Enum ∷ word.Export ∷ word.Extends ∷ []
    else if c == 102 then word.False ∷ word.Finally ∷ word.For ∷ word.Function ∷ []
    else if c == 105 then word.If ∷ word.Import ∷ word.In ∷ word.Instanceof ∷ []
    else if c == 108 then word.Let ∷ []
    else if c == 109 then word.Mutable ∷ []
    else if c == 110 then word.New ∷ word.Null ∷ []
    else if c == 114 then word.Return ∷ []
    else if c == 115 then word.Static ∷ word.Super ∷ word.Switch ∷ []
    else if c == 116 then word.This ∷ word.Throw ∷ word.True ∷ word.Try ∷ word.Typeof ∷ []
    else if c == 117 then word.Undefined ∷ []
    else if c == 118 then word.Var ∷ word.Viewof ∷ word.Void ∷ []
    else if c == 119 then word.While ∷ word.With ∷ []
    else if c == 121 then word.Yield ∷ []
    else []
