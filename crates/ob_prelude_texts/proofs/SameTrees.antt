-- The trees of the builtins, written out.
use Rattle.std.proofs.Common.{◌≡◌, refl}
use Rattle.ob_tree_prelude.specs.Parts.{member, element, call, call_with, declared, const_stmt, let_stmt, assign_stmt, count_stmt, empty_stmt, push_stmt, if_stmt, from_zero, below_count, for_stmt, function_tree}
use Rattle.ob_tree_prelude.specs.Trees.{map_items, map_tree, filter_turn, filter_items, filter_tree, for_each_items, for_each_tree, search_items, some_tree, every_tree, message, refuse_stmt, is_empty, first_element, start_items, start_stmt, reduce_turn, reduce_items, reduce_tree, has_no_function, mapped_element, taken_element, from_items, from_tree}
use Rattle.ob_prelude_texts.proofs.CopiedTrees as copy

pub map_is : map_tree ≡ copy.map_tree
unfolding member element call call_with declared const_stmt count_stmt empty_stmt push_stmt from_zero below_count for_stmt function_tree map_items map_tree
map_is = refl

pub filter_is : filter_tree ≡ copy.filter_tree
unfolding member element call call_with declared const_stmt count_stmt empty_stmt push_stmt if_stmt from_zero below_count for_stmt function_tree filter_turn filter_items filter_tree
filter_is = refl

pub each_is : for_each_tree ≡ copy.for_each_tree
unfolding member element call call_with declared const_stmt count_stmt from_zero below_count for_stmt function_tree for_each_items for_each_tree
each_is = refl

pub some_is : some_tree ≡ copy.some_tree
unfolding member element call call_with declared const_stmt count_stmt if_stmt from_zero below_count for_stmt function_tree search_items some_tree
some_is = refl

pub every_is : every_tree ≡ copy.every_tree
unfolding member element call call_with declared const_stmt count_stmt if_stmt from_zero below_count for_stmt function_tree search_items every_tree
every_is = refl

pub reduce_is : reduce_tree ≡ copy.reduce_tree
unfolding member element call declared const_stmt let_stmt assign_stmt count_stmt if_stmt below_count for_stmt function_tree message refuse_stmt is_empty first_element start_items start_stmt reduce_turn reduce_items reduce_tree
reduce_is = refl

pub from_is : from_tree ≡ copy.from_tree
unfolding member element call declared const_stmt count_stmt empty_stmt push_stmt from_zero below_count for_stmt function_tree has_no_function mapped_element taken_element from_items from_tree
from_is = refl
