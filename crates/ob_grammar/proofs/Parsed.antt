-- Within the limits the descent reads exactly what is readable.
use Rattle.std.proofs.Common.{◌≡◌, ◌≤◌, Bool, true, false, ◌&&◌, List, Option, Some, None, if◌then◌else◌, refl, ap, sym, ◌∙◌, arith}
use Rattle.std.specs.Prelude.{nat_le}
use Rattle.std.proofs.lemmas.Bool.{leb-true, le-leb, and_parts, and_from}
use Rattle.ob_lex.specs.declared.token.Token.{Token}
use Rattle.ob_tree.specs.Depth.{depth_of}
use Rattle.ob_tree_types.specs.declared.cell.CellTree.{CellTree}
use Rattle.ob_grammar.specs.Early.{is_free_of_errors}
use Rattle.ob_grammar.specs.Limits.{most_open}
use Rattle.ob_grammar.specs.Readable.{Reads}
use Rattle.ob_grammar.specs.ReadingCells.{cell_of, depth_limit, if_readable, parsed_by, parsed}
use Rattle.ob_grammar.proofs.Statements.{CellsAreSound, CellsAreComplete, CellsNestWithin, CellsBuildWithin, ParsedIsReadable}

record Kept (test : Bool) (a b : CellTree) : Type 0 where
  passes : test ≡ true
  same : a ≡ b

kept : (test : Bool) (a b : CellTree) → (if test then Some a else None) ≡ Some b → Kept test a b
kept true a b h = record { passes = refl; same = cc }
kept false a b h = cc

record Found (o : Option CellTree) (tree : CellTree) : Type 0 where
  found : o ≡ Some tree
  errors : is_free_of_errors tree ≡ true
  depth : depth_of tree ≤ 200

found : (o : Option CellTree) (tree : CellTree) → if_readable o ≡ Some tree → Found o tree
found None tree h = cc
found (Some a) tree h = at (kept (nat_le (depth_of a) 200 && is_free_of_errors a) a tree h)
  where
    at : Kept (nat_le (depth_of a) 200 && is_free_of_errors a) a tree → Found (Some a) tree
    at k = let p = and_parts (nat_le (depth_of a) 200) (is_free_of_errors a) k.passes in
        record { found = ap Some k.same; errors = ap is_free_of_errors (sym k.same) ∙ p.1; depth = omega (arith, leb-true (depth_of a) 200 p.0, ap depth_of k.same) }

readable : CellsAreSound → (ts : List Token) (tree : CellTree) (b : Bool) → nat_le (most_open 0 ts) 500 ≡ b → parsed_by b ts ≡ Some tree
    → Reads ts tree
readable sound ts tree true e h = let f = found (cell_of depth_limit 701 ts) tree h in
    record { derives = sound depth_limit 701 ts tree f.found; errors = f.errors; depth = f.depth; brackets = leb-true (most_open 0 ts) 500 e }
readable sound ts tree false e h = cc

is_parsed : CellsAreComplete → CellsNestWithin → CellsBuildWithin → (ts : List Token) (tree : CellTree) → Reads ts tree → parsed ts ≡ Some tree
unfolding parsed
is_parsed complete nests builds ts tree r =
    ap (λ b. parsed_by b ts) (le-leb (most_open 0 ts) 500 r.brackets)
    ∙ ap if_readable (complete ts tree r.derives r.errors depth_limit (omega (arith, builds ts tree r.derives, r.depth)) 701 (omega (arith, nests ts tree r.derives, r.depth, r.brackets)))
    ∙ ap (λ b. if b then Some tree else None) (and_from (nat_le (depth_of tree) 200) (is_free_of_errors tree) (le-leb (depth_of tree) 200 r.depth) r.errors)

pub parsed_is_readable : CellsAreSound → CellsAreComplete → CellsNestWithin → CellsBuildWithin → ParsedIsReadable
unfolding parsed
parsed_is_readable sound complete nests builds ts tree = (λ h. readable sound ts tree (nat_le (most_open 0 ts) 500) refl h, is_parsed complete nests builds ts tree)
