use Rattle.std.proofs.Common.{◌≡◌, ◌+◌, ◌*◌, drop, [], codes, if◌then◌else◌}
use Rattle.ob_values.specs.Inspect.{print_value, print_property, print_at, print_parts}
use Rattle.ob_inspect.proofs.print.+print.Given as goal

abbrev pub decreases-print_value : goal.decreases-print_value
decreases-print_value l = 6 * l.depth + 3

abbrev pub decreases-print_body : goal.decreases-print_body
decreases-print_body l = 6 * l.depth + 2

abbrev pub decreases-print_opened : goal.decreases-print_opened
decreases-print_opened l = 6 * l.depth + 7

abbrev pub decreases-print_elements : goal.decreases-print_elements
decreases-print_elements l = 6 * l.depth + 4

abbrev pub decreases-print_object : goal.decreases-print_object
decreases-print_object l = 6 * l.depth + 6

abbrev pub decreases-print_properties : goal.decreases-print_properties
decreases-print_properties l = 6 * l.depth + 5

abbrev pub decreases-print_property : goal.decreases-print_property
decreases-print_property l = 6 * l.depth + 4

abbrev pub invariant-print_elements-loop-value : goal.invariant-print_elements-loop-value
invariant-print_elements-loop-value l =
    print_parts (print_value (print_at l.depth l.regions)) (if l.begun then codes ", " else []) (drop l.value-index l.values) l.page
    ≡ print_parts (print_value (print_at l.depth l.regions)) [] l.values l.fn.page

abbrev pub invariant-print_properties-loop-property : goal.invariant-print_properties-loop-property
invariant-print_properties-loop-property l =
    print_parts (print_property (print_value (print_at l.depth l.regions))) (if l.begun then codes ", " else []) (drop l.property-index l.entries) l.page
    ≡ print_parts (print_property (print_value (print_at l.depth l.regions))) [] l.entries l.fn.page
