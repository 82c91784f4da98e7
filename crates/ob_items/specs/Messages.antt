-- The errors that the language itself throws (this project; the kinds after ECMA-262, "Native Error Types").
use Rattle.std.specs.Prelude.{ℕ, List, codes}
use Rattle.ob_items.specs.declared.thrown.Thrown.{Thrown}
use Rattle.ob_items.specs.declared.thrown.Thrown.TheVariants as T
use Rattle.ob_items.specs.declared.value.ErrorKind.{ErrorKind}
use Rattle.ob_items.specs.declared.value.ErrorKind.TheVariants as K

abbrev pub message_of : Thrown → List ℕ
message_of T.WrongOperand = codes "wrong operand"
message_of T.NotAFunction = codes "not a function"
message_of T.NoProperty = codes "no property of null or undefined"
message_of T.Frozen = codes "frozen"
message_of T.Constant = codes "constant"
message_of T.CannotSet = codes "cannot set"
message_of T.BadKey = codes "bad key"
message_of T.NotIterable = codes "not iterable"
message_of T.GeneratorRunning = codes "generator is running"
message_of T.BadArgument = codes "bad argument"
message_of T.NotPlain = codes "not plain data"
message_of T.NotAConstructor = codes "not a constructor"
message_of T.UsedBefore = codes "used before its declaration"
message_of T.OutOfRange = codes "number out of range"
message_of T.InexactQuotient = codes "inexact quotient"
message_of T.DivisionByZero = codes "division by zero"
message_of T.PastEnd = codes "index past the end"
message_of T.TextTooLong = codes "text too long"
message_of T.BadCount = codes "bad count"

abbrev pub kind_of_thrown : Thrown → ErrorKind
kind_of_thrown T.WrongOperand = K.TypeError
kind_of_thrown T.NotAFunction = K.TypeError
kind_of_thrown T.NoProperty = K.TypeError
kind_of_thrown T.Frozen = K.TypeError
kind_of_thrown T.Constant = K.TypeError
kind_of_thrown T.CannotSet = K.TypeError
kind_of_thrown T.BadKey = K.TypeError
kind_of_thrown T.NotIterable = K.TypeError
kind_of_thrown T.GeneratorRunning = K.TypeError
kind_of_thrown T.BadArgument = K.TypeError
kind_of_thrown T.NotPlain = K.TypeError
kind_of_thrown T.NotAConstructor = K.TypeError
kind_of_thrown T.UsedBefore = K.ReferenceError
kind_of_thrown T.OutOfRange = K.RangeError
kind_of_thrown T.InexactQuotient = K.RangeError
kind_of_thrown T.DivisionByZero = K.RangeError
kind_of_thrown T.PastEnd = K.RangeError
kind_of_thrown T.TextTooLong = K.RangeError
kind_of_thrown T.BadCount = K.RangeError
