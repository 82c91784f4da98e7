-- The code of a text and of the functions in it, by their numbers: 0 is the text itself, and the others follow in text order.
use Rattle.std.specs.Prelude.{ℕ, zero, suc, ◌+◌, max, List, [], ◌∷◌, Bool, Option, Some, slice_get}
use Rattle.ob_code.specs.declared.chunk.Chunk.{Chunk, out-Chunk}
use Rattle.ob_code.specs.declared.chunk.Methods.{Methods}
use Rattle.ob_code.specs.declared.op.Op.{Op}

-- the code of one function
pub record Code : Type 0 where
  pub ops : List Op
  pub texts : List (List ℕ)
  pub methods : List Methods
  pub locals : ℕ
  pub operands : ℕ
  pub captures : List ℕ
  pub invalidation : Bool

abbrev pub code_of : Chunk → Code
code_of c = record {
  ops = (out-Chunk c).ops;
  texts = (out-Chunk c).texts;
  methods = (out-Chunk c).methods;
  locals = (out-Chunk c).locals;
  operands = (out-Chunk c).operands;
  captures = (out-Chunk c).captures;
  invalidation = (out-Chunk c).invalidation;
}

abbrev pub functions_of : Chunk → List Chunk
functions_of c = (out-Chunk c).functions

-- the function of a number
abbrev pub function_at : Chunk → ℕ → Option Chunk
function_at c zero = Some c
function_at c (suc n) = slice_get (functions_of c) n

-- how many boxes a call must have, so that a function value can keep those at these places
abbrev pub boxes_for : List ℕ → ℕ
boxes_for [] = 0
boxes_for (place ∷ places) = max (place + 1) (boxes_for places)

-- the same for each function of a text
abbrev pub boxes_for_each : List Chunk → List ℕ
boxes_for_each [] = []
boxes_for_each (c ∷ functions) = boxes_for (out-Chunk c).captures ∷ boxes_for_each functions

-- what the rules look at in a function: its code, how many boxes a call of it has at its entry, and how many each function of the text asks
pub record Site : Type 0 where
  pub ops : List Op
  pub texts : List (List ℕ)
  pub methods : List Methods
  pub locals : ℕ
  pub operands : ℕ
  pub boxes : ℕ
  pub asked : List ℕ

abbrev pub site_of : List ℕ → ℕ → Chunk → Site
site_of asked boxes c = record {
  ops = (out-Chunk c).ops;
  texts = (out-Chunk c).texts;
  methods = (out-Chunk c).methods;
  locals = (out-Chunk c).locals;
  operands = (out-Chunk c).operands;
  boxes = boxes;
  asked = asked;
}
