-- The texts of the builtins that are written in the language itself, and their tokens with the bytes where they start and end.
use Rattle.std.specs.Prelude.{ℕ, pos, false, List, [], ◌∷◌, codes}
use Rattle.ob_lex.specs.declared.punctuator.Punctuator.{Punctuator}
use Rattle.ob_lex.specs.declared.punctuator.Punctuator.TheVariants as mark
use Rattle.ob_base.specs.declared.reserved.ReservedWord.{ReservedWord}
use Rattle.ob_base.specs.declared.reserved.ReservedWord.TheVariants as word
use Rattle.ob_lex.specs.declared.token.Token.{Token}
use Rattle.ob_lex.specs.declared.token.TokenKind.{TokenKind}
use Rattle.ob_lex.specs.declared.token.TokenKind.TheVariants as kind

abbrev pub at : ℕ → ℕ → TokenKind → Token
at from to k = record { kind = k; start = from; end = to; break_before = false }

abbrev pub m : Punctuator → TokenKind
m p = kind.Punctuator p

abbrev pub w : ReservedWord → TokenKind
w p = kind.Reserved p

abbrev pub name : List ℕ → TokenKind
name x = kind.Name x

abbrev pub string : List ℕ → TokenKind
string x = kind.Text x

abbrev pub int : ℕ → TokenKind
int n = kind.Number (pos n)

abbrev pub map_text : List ℕ
map_text =
    codes "function (a, f) { const n = a.length; const r = []; for (let i = 0; i < n; i++) { r.push(f(a[i], i, a)); } return r; }"

abbrev pub map_tokens : List Token
map_tokens =
    at 0 8 (w word.Function) ∷ at 9 10 (m mark.OpenParenthesis) ∷ at 10 11 (name (codes "a")) ∷ at 11 12 (m mark.Comma) ∷
    at 13 14 (name (codes "f")) ∷ at 14 15 (m mark.CloseParenthesis) ∷ at 16 17 (m mark.OpenBrace) ∷ at 18 23 (w word.Const) ∷
    at 24 25 (name (codes "n")) ∷ at 26 27 (m mark.Assign) ∷ at 28 29 (name (codes "a")) ∷ at 29 30 (m mark.Dot) ∷ at 30 36 (name (codes "length")) ∷
    at 36 37 (m mark.Semicolon) ∷ at 38 43 (w word.Const) ∷ at 44 45 (name (codes "r")) ∷ at 46 47 (m mark.Assign) ∷ at 48 49 (m mark.OpenBracket) ∷
    at 49 50 (m mark.CloseBracket) ∷ at 50 51 (m mark.Semicolon) ∷ at 52 55 (w word.For) ∷ at 56 57 (m mark.OpenParenthesis) ∷ at 57 60 (w word.Let) ∷
    at 61 62 (name (codes "i")) ∷ at 63 64 (m mark.Assign) ∷ at 65 66 (int 0) ∷ at 66 67 (m mark.Semicolon) ∷ at 68 69 (name (codes "i")) ∷
    at 70 71 (m mark.Less) ∷ at 72 73 (name (codes "n")) ∷ at 73 74 (m mark.Semicolon) ∷ at 75 76 (name (codes "i")) ∷ at 76 78 (m mark.PlusPlus) ∷
    at 78 79 (m mark.CloseParenthesis) ∷ at 80 81 (m mark.OpenBrace) ∷ at 82 83 (name (codes "r")) ∷ at 83 84 (m mark.Dot) ∷
    at 84 88 (name (codes "push")) ∷ at 88 89 (m mark.OpenParenthesis) ∷ at 89 90 (name (codes "f")) ∷ at 90 91 (m mark.OpenParenthesis) ∷
    at 91 92 (name (codes "a")) ∷ at 92 93 (m mark.OpenBracket) ∷ at 93 94 (name (codes "i")) ∷ at 94 95 (m mark.CloseBracket) ∷
    at 95 96 (m mark.Comma) ∷ at 97 98 (name (codes "i")) ∷ at 98 99 (m mark.Comma) ∷ at 100 101 (name (codes "a")) ∷
    at 101 102 (m mark.CloseParenthesis) ∷ at 102 103 (m mark.CloseParenthesis) ∷ at 103 104 (m mark.Semicolon) ∷ at 105 106 (m mark.CloseBrace) ∷
    at 107 113 (w word.Return) ∷ at 114 115 (name (codes "r")) ∷ at 115 116 (m mark.Semicolon) ∷ at 117 118 (m mark.CloseBrace) ∷ []

abbrev pub filter_text : List ℕ
filter_text =
    codes "function (a, f) { const n = a.length; const r = []; for (let i = 0; i < n; i++) { const v = a[i]; if (f(v, i, a)) { r.push(v); } } return r; }"

abbrev pub filter_tokens : List Token
filter_tokens =
    at 0 8 (w word.Function) ∷ at 9 10 (m mark.OpenParenthesis) ∷ at 10 11 (name (codes "a")) ∷ at 11 12 (m mark.Comma) ∷
    at 13 14 (name (codes "f")) ∷ at 14 15 (m mark.CloseParenthesis) ∷ at 16 17 (m mark.OpenBrace) ∷ at 18 23 (w word.Const) ∷
    at 24 25 (name (codes "n")) ∷ at 26 27 (m mark.Assign) ∷ at 28 29 (name (codes "a")) ∷ at 29 30 (m mark.Dot) ∷ at 30 36 (name (codes "length")) ∷
    at 36 37 (m mark.Semicolon) ∷ at 38 43 (w word.Const) ∷ at 44 45 (name (codes "r")) ∷ at 46 47 (m mark.Assign) ∷ at 48 49 (m mark.OpenBracket) ∷
    at 49 50 (m mark.CloseBracket) ∷ at 50 51 (m mark.Semicolon) ∷ at 52 55 (w word.For) ∷ at 56 57 (m mark.OpenParenthesis) ∷ at 57 60 (w word.Let) ∷
    at 61 62 (name (codes "i")) ∷ at 63 64 (m mark.Assign) ∷ at 65 66 (int 0) ∷ at 66 67 (m mark.Semicolon) ∷ at 68 69 (name (codes "i")) ∷
    at 70 71 (m mark.Less) ∷ at 72 73 (name (codes "n")) ∷ at 73 74 (m mark.Semicolon) ∷ at 75 76 (name (codes "i")) ∷ at 76 78 (m mark.PlusPlus) ∷
    at 78 79 (m mark.CloseParenthesis) ∷ at 80 81 (m mark.OpenBrace) ∷ at 82 87 (w word.Const) ∷ at 88 89 (name (codes "v")) ∷
    at 90 91 (m mark.Assign) ∷ at 92 93 (name (codes "a")) ∷ at 93 94 (m mark.OpenBracket) ∷ at 94 95 (name (codes "i")) ∷
    at 95 96 (m mark.CloseBracket) ∷ at 96 97 (m mark.Semicolon) ∷ at 98 100 (w word.If) ∷ at 101 102 (m mark.OpenParenthesis) ∷
    at 102 103 (name (codes "f")) ∷ at 103 104 (m mark.OpenParenthesis) ∷ at 104 105 (name (codes "v")) ∷ at 105 106 (m mark.Comma) ∷
    at 107 108 (name (codes "i")) ∷ at 108 109 (m mark.Comma) ∷ at 110 111 (name (codes "a")) ∷ at 111 112 (m mark.CloseParenthesis) ∷
    at 112 113 (m mark.CloseParenthesis) ∷ at 114 115 (m mark.OpenBrace) ∷ at 116 117 (name (codes "r")) ∷ at 117 118 (m mark.Dot) ∷
    at 118 122 (name (codes "push")) ∷ at 122 123 (m mark.OpenParenthesis) ∷ at 123 124 (name (codes "v")) ∷ at 124 125 (m mark.CloseParenthesis) ∷
    at 125 126 (m mark.Semicolon) ∷ at 127 128 (m mark.CloseBrace) ∷ at 129 130 (m mark.CloseBrace) ∷ at 131 137 (w word.Return) ∷
    at 138 139 (name (codes "r")) ∷ at 139 140 (m mark.Semicolon) ∷ at 141 142 (m mark.CloseBrace) ∷ []

abbrev pub each_text : List ℕ
each_text =
    codes "function (a, f) { const n = a.length; for (let i = 0; i < n; i++) { f(a[i], i, a); } }"

abbrev pub each_tokens : List Token
each_tokens =
    at 0 8 (w word.Function) ∷ at 9 10 (m mark.OpenParenthesis) ∷ at 10 11 (name (codes "a")) ∷ at 11 12 (m mark.Comma) ∷
    at 13 14 (name (codes "f")) ∷ at 14 15 (m mark.CloseParenthesis) ∷ at 16 17 (m mark.OpenBrace) ∷ at 18 23 (w word.Const) ∷
    at 24 25 (name (codes "n")) ∷ at 26 27 (m mark.Assign) ∷ at 28 29 (name (codes "a")) ∷ at 29 30 (m mark.Dot) ∷ at 30 36 (name (codes "length")) ∷
    at 36 37 (m mark.Semicolon) ∷ at 38 41 (w word.For) ∷ at 42 43 (m mark.OpenParenthesis) ∷ at 43 46 (w word.Let) ∷ at 47 48 (name (codes "i")) ∷
    at 49 50 (m mark.Assign) ∷ at 51 52 (int 0) ∷ at 52 53 (m mark.Semicolon) ∷ at 54 55 (name (codes "i")) ∷ at 56 57 (m mark.Less) ∷
    at 58 59 (name (codes "n")) ∷ at 59 60 (m mark.Semicolon) ∷ at 61 62 (name (codes "i")) ∷ at 62 64 (m mark.PlusPlus) ∷
    at 64 65 (m mark.CloseParenthesis) ∷ at 66 67 (m mark.OpenBrace) ∷ at 68 69 (name (codes "f")) ∷ at 69 70 (m mark.OpenParenthesis) ∷
    at 70 71 (name (codes "a")) ∷ at 71 72 (m mark.OpenBracket) ∷ at 72 73 (name (codes "i")) ∷ at 73 74 (m mark.CloseBracket) ∷
    at 74 75 (m mark.Comma) ∷ at 76 77 (name (codes "i")) ∷ at 77 78 (m mark.Comma) ∷ at 79 80 (name (codes "a")) ∷
    at 80 81 (m mark.CloseParenthesis) ∷ at 81 82 (m mark.Semicolon) ∷ at 83 84 (m mark.CloseBrace) ∷ at 85 86 (m mark.CloseBrace) ∷ []

abbrev pub some_text : List ℕ
some_text =
    codes "function (a, f) { const n = a.length; for (let i = 0; i < n; i++) { if (f(a[i], i, a)) { return true; } } return false; }"

abbrev pub some_tokens : List Token
some_tokens =
    at 0 8 (w word.Function) ∷ at 9 10 (m mark.OpenParenthesis) ∷ at 10 11 (name (codes "a")) ∷ at 11 12 (m mark.Comma) ∷
    at 13 14 (name (codes "f")) ∷ at 14 15 (m mark.CloseParenthesis) ∷ at 16 17 (m mark.OpenBrace) ∷ at 18 23 (w word.Const) ∷
    at 24 25 (name (codes "n")) ∷ at 26 27 (m mark.Assign) ∷ at 28 29 (name (codes "a")) ∷ at 29 30 (m mark.Dot) ∷ at 30 36 (name (codes "length")) ∷
    at 36 37 (m mark.Semicolon) ∷ at 38 41 (w word.For) ∷ at 42 43 (m mark.OpenParenthesis) ∷ at 43 46 (w word.Let) ∷ at 47 48 (name (codes "i")) ∷
    at 49 50 (m mark.Assign) ∷ at 51 52 (int 0) ∷ at 52 53 (m mark.Semicolon) ∷ at 54 55 (name (codes "i")) ∷ at 56 57 (m mark.Less) ∷
    at 58 59 (name (codes "n")) ∷ at 59 60 (m mark.Semicolon) ∷ at 61 62 (name (codes "i")) ∷ at 62 64 (m mark.PlusPlus) ∷
    at 64 65 (m mark.CloseParenthesis) ∷ at 66 67 (m mark.OpenBrace) ∷ at 68 70 (w word.If) ∷ at 71 72 (m mark.OpenParenthesis) ∷
    at 72 73 (name (codes "f")) ∷ at 73 74 (m mark.OpenParenthesis) ∷ at 74 75 (name (codes "a")) ∷ at 75 76 (m mark.OpenBracket) ∷
    at 76 77 (name (codes "i")) ∷ at 77 78 (m mark.CloseBracket) ∷ at 78 79 (m mark.Comma) ∷ at 80 81 (name (codes "i")) ∷ at 81 82 (m mark.Comma) ∷
    at 83 84 (name (codes "a")) ∷ at 84 85 (m mark.CloseParenthesis) ∷ at 85 86 (m mark.CloseParenthesis) ∷ at 87 88 (m mark.OpenBrace) ∷
    at 89 95 (w word.Return) ∷ at 96 100 (w word.True) ∷ at 100 101 (m mark.Semicolon) ∷ at 102 103 (m mark.CloseBrace) ∷
    at 104 105 (m mark.CloseBrace) ∷ at 106 112 (w word.Return) ∷ at 113 118 (w word.False) ∷ at 118 119 (m mark.Semicolon) ∷
    at 120 121 (m mark.CloseBrace) ∷ []

abbrev pub every_text : List ℕ
every_text =
    codes "function (a, f) { const n = a.length; for (let i = 0; i < n; i++) { if (!f(a[i], i, a)) { return false; } } return true; }"

abbrev pub every_tokens : List Token
every_tokens =
    at 0 8 (w word.Function) ∷ at 9 10 (m mark.OpenParenthesis) ∷ at 10 11 (name (codes "a")) ∷ at 11 12 (m mark.Comma) ∷
    at 13 14 (name (codes "f")) ∷ at 14 15 (m mark.CloseParenthesis) ∷ at 16 17 (m mark.OpenBrace) ∷ at 18 23 (w word.Const) ∷
    at 24 25 (name (codes "n")) ∷ at 26 27 (m mark.Assign) ∷ at 28 29 (name (codes "a")) ∷ at 29 30 (m mark.Dot) ∷ at 30 36 (name (codes "length")) ∷
    at 36 37 (m mark.Semicolon) ∷ at 38 41 (w word.For) ∷ at 42 43 (m mark.OpenParenthesis) ∷ at 43 46 (w word.Let) ∷ at 47 48 (name (codes "i")) ∷
    at 49 50 (m mark.Assign) ∷ at 51 52 (int 0) ∷ at 52 53 (m mark.Semicolon) ∷ at 54 55 (name (codes "i")) ∷ at 56 57 (m mark.Less) ∷
    at 58 59 (name (codes "n")) ∷ at 59 60 (m mark.Semicolon) ∷ at 61 62 (name (codes "i")) ∷ at 62 64 (m mark.PlusPlus) ∷
    at 64 65 (m mark.CloseParenthesis) ∷ at 66 67 (m mark.OpenBrace) ∷ at 68 70 (w word.If) ∷ at 71 72 (m mark.OpenParenthesis) ∷
    at 72 73 (m mark.Not) ∷ at 73 74 (name (codes "f")) ∷ at 74 75 (m mark.OpenParenthesis) ∷ at 75 76 (name (codes "a")) ∷
    at 76 77 (m mark.OpenBracket) ∷ at 77 78 (name (codes "i")) ∷ at 78 79 (m mark.CloseBracket) ∷ at 79 80 (m mark.Comma) ∷
    at 81 82 (name (codes "i")) ∷ at 82 83 (m mark.Comma) ∷ at 84 85 (name (codes "a")) ∷ at 85 86 (m mark.CloseParenthesis) ∷
    at 86 87 (m mark.CloseParenthesis) ∷ at 88 89 (m mark.OpenBrace) ∷ at 90 96 (w word.Return) ∷ at 97 102 (w word.False) ∷
    at 102 103 (m mark.Semicolon) ∷ at 104 105 (m mark.CloseBrace) ∷ at 106 107 (m mark.CloseBrace) ∷ at 108 114 (w word.Return) ∷
    at 115 119 (w word.True) ∷ at 119 120 (m mark.Semicolon) ∷ at 121 122 (m mark.CloseBrace) ∷ []

abbrev pub reduce_text : List ℕ
reduce_text =
    codes "function (a, f, v, given) { let r = v; let i = 0; if (!given) { if (a.length === 0) { throw new TypeError(\"bad argument\"); } r = a[0]; i = 1; } const n = a.length; for (; i < n; i++) { r = f(r, a[i], i, a); } return r; }"

abbrev pub reduce_tokens : List Token
reduce_tokens =
    at 0 8 (w word.Function) ∷ at 9 10 (m mark.OpenParenthesis) ∷ at 10 11 (name (codes "a")) ∷ at 11 12 (m mark.Comma) ∷
    at 13 14 (name (codes "f")) ∷ at 14 15 (m mark.Comma) ∷ at 16 17 (name (codes "v")) ∷ at 17 18 (m mark.Comma) ∷ at 19 24 (name (codes "given")) ∷
    at 24 25 (m mark.CloseParenthesis) ∷ at 26 27 (m mark.OpenBrace) ∷ at 28 31 (w word.Let) ∷ at 32 33 (name (codes "r")) ∷
    at 34 35 (m mark.Assign) ∷ at 36 37 (name (codes "v")) ∷ at 37 38 (m mark.Semicolon) ∷ at 39 42 (w word.Let) ∷ at 43 44 (name (codes "i")) ∷
    at 45 46 (m mark.Assign) ∷ at 47 48 (int 0) ∷ at 48 49 (m mark.Semicolon) ∷ at 50 52 (w word.If) ∷ at 53 54 (m mark.OpenParenthesis) ∷
    at 54 55 (m mark.Not) ∷ at 55 60 (name (codes "given")) ∷ at 60 61 (m mark.CloseParenthesis) ∷ at 62 63 (m mark.OpenBrace) ∷
    at 64 66 (w word.If) ∷ at 67 68 (m mark.OpenParenthesis) ∷ at 68 69 (name (codes "a")) ∷ at 69 70 (m mark.Dot) ∷
    at 70 76 (name (codes "length")) ∷ at 77 80 (m mark.Same) ∷ at 81 82 (int 0) ∷ at 82 83 (m mark.CloseParenthesis) ∷ at 84 85 (m mark.OpenBrace) ∷
    at 86 91 (w word.Throw) ∷ at 92 95 (w word.New) ∷ at 96 105 (name (codes "TypeError")) ∷ at 105 106 (m mark.OpenParenthesis) ∷
    at 106 120 (string (codes "bad argument")) ∷ at 120 121 (m mark.CloseParenthesis) ∷ at 121 122 (m mark.Semicolon) ∷
    at 123 124 (m mark.CloseBrace) ∷ at 125 126 (name (codes "r")) ∷ at 127 128 (m mark.Assign) ∷ at 129 130 (name (codes "a")) ∷
    at 130 131 (m mark.OpenBracket) ∷ at 131 132 (int 0) ∷ at 132 133 (m mark.CloseBracket) ∷ at 133 134 (m mark.Semicolon) ∷
    at 135 136 (name (codes "i")) ∷ at 137 138 (m mark.Assign) ∷ at 139 140 (int 1) ∷ at 140 141 (m mark.Semicolon) ∷ at 142 143 (m mark.CloseBrace) ∷
    at 144 149 (w word.Const) ∷ at 150 151 (name (codes "n")) ∷ at 152 153 (m mark.Assign) ∷ at 154 155 (name (codes "a")) ∷ at 155 156 (m mark.Dot) ∷
    at 156 162 (name (codes "length")) ∷ at 162 163 (m mark.Semicolon) ∷ at 164 167 (w word.For) ∷ at 168 169 (m mark.OpenParenthesis) ∷
    at 169 170 (m mark.Semicolon) ∷ at 171 172 (name (codes "i")) ∷ at 173 174 (m mark.Less) ∷ at 175 176 (name (codes "n")) ∷
    at 176 177 (m mark.Semicolon) ∷ at 178 179 (name (codes "i")) ∷ at 179 181 (m mark.PlusPlus) ∷ at 181 182 (m mark.CloseParenthesis) ∷
    at 183 184 (m mark.OpenBrace) ∷ at 185 186 (name (codes "r")) ∷ at 187 188 (m mark.Assign) ∷ at 189 190 (name (codes "f")) ∷
    at 190 191 (m mark.OpenParenthesis) ∷ at 191 192 (name (codes "r")) ∷ at 192 193 (m mark.Comma) ∷ at 194 195 (name (codes "a")) ∷
    at 195 196 (m mark.OpenBracket) ∷ at 196 197 (name (codes "i")) ∷ at 197 198 (m mark.CloseBracket) ∷ at 198 199 (m mark.Comma) ∷
    at 200 201 (name (codes "i")) ∷ at 201 202 (m mark.Comma) ∷ at 203 204 (name (codes "a")) ∷ at 204 205 (m mark.CloseParenthesis) ∷
    at 205 206 (m mark.Semicolon) ∷ at 207 208 (m mark.CloseBrace) ∷ at 209 215 (w word.Return) ∷ at 216 217 (name (codes "r")) ∷
    at 217 218 (m mark.Semicolon) ∷ at 219 220 (m mark.CloseBrace) ∷ []

abbrev pub from_text : List ℕ
from_text =
    codes "function (x, f) { const n = x.length; const r = []; for (let i = 0; i < n; i++) { r.push(f === undefined ? x[i] : f(x[i], i)); } return r; }"

abbrev pub from_tokens : List Token
from_tokens =
    at 0 8 (w word.Function) ∷ at 9 10 (m mark.OpenParenthesis) ∷ at 10 11 (name (codes "x")) ∷ at 11 12 (m mark.Comma) ∷
    at 13 14 (name (codes "f")) ∷ at 14 15 (m mark.CloseParenthesis) ∷ at 16 17 (m mark.OpenBrace) ∷ at 18 23 (w word.Const) ∷
    at 24 25 (name (codes "n")) ∷ at 26 27 (m mark.Assign) ∷ at 28 29 (name (codes "x")) ∷ at 29 30 (m mark.Dot) ∷ at 30 36 (name (codes "length")) ∷
    at 36 37 (m mark.Semicolon) ∷ at 38 43 (w word.Const) ∷ at 44 45 (name (codes "r")) ∷ at 46 47 (m mark.Assign) ∷ at 48 49 (m mark.OpenBracket) ∷
    at 49 50 (m mark.CloseBracket) ∷ at 50 51 (m mark.Semicolon) ∷ at 52 55 (w word.For) ∷ at 56 57 (m mark.OpenParenthesis) ∷ at 57 60 (w word.Let) ∷
    at 61 62 (name (codes "i")) ∷ at 63 64 (m mark.Assign) ∷ at 65 66 (int 0) ∷ at 66 67 (m mark.Semicolon) ∷ at 68 69 (name (codes "i")) ∷
    at 70 71 (m mark.Less) ∷ at 72 73 (name (codes "n")) ∷ at 73 74 (m mark.Semicolon) ∷ at 75 76 (name (codes "i")) ∷ at 76 78 (m mark.PlusPlus) ∷
    at 78 79 (m mark.CloseParenthesis) ∷ at 80 81 (m mark.OpenBrace) ∷ at 82 83 (name (codes "r")) ∷ at 83 84 (m mark.Dot) ∷
    at 84 88 (name (codes "push")) ∷ at 88 89 (m mark.OpenParenthesis) ∷ at 89 90 (name (codes "f")) ∷ at 91 94 (m mark.Same) ∷
    at 95 104 (w word.Undefined) ∷ at 105 106 (m mark.Question) ∷ at 107 108 (name (codes "x")) ∷ at 108 109 (m mark.OpenBracket) ∷
    at 109 110 (name (codes "i")) ∷ at 110 111 (m mark.CloseBracket) ∷ at 112 113 (m mark.Colon) ∷ at 114 115 (name (codes "f")) ∷
    at 115 116 (m mark.OpenParenthesis) ∷ at 116 117 (name (codes "x")) ∷ at 117 118 (m mark.OpenBracket) ∷ at 118 119 (name (codes "i")) ∷
    at 119 120 (m mark.CloseBracket) ∷ at 120 121 (m mark.Comma) ∷ at 122 123 (name (codes "i")) ∷ at 123 124 (m mark.CloseParenthesis) ∷
    at 124 125 (m mark.CloseParenthesis) ∷ at 125 126 (m mark.Semicolon) ∷ at 127 128 (m mark.CloseBrace) ∷ at 129 135 (w word.Return) ∷
    at 136 137 (name (codes "r")) ∷ at 137 138 (m mark.Semicolon) ∷ at 139 140 (m mark.CloseBrace) ∷ []
