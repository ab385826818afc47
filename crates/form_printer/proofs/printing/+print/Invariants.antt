use Rattle.std.proofs.Common.{◌+◌, ◌*◌}
use Rattle.forms.specs.Tree.{tree, program, nodes, program_nodes}
use Rattle.form_printer.proofs.printing.+print.Given as goal

abbrev pub decreases-print : goal.decreases-print
decreases-print l = 2 * nodes (tree l.form.now)

abbrev pub decreases-print_behind : goal.decreases-print_behind
decreases-print_behind l = 2 * nodes (tree l.form.now) + 1

abbrev pub decreases-print_joined : goal.decreases-print_joined
decreases-print_joined l = 2 * (nodes (tree l.left.now) + nodes (tree l.right.now)) + 1

abbrev pub decreases-print_modal : goal.decreases-print_modal
decreases-print_modal l = 2 * (program_nodes (program l.path.now) + nodes (tree l.form.now)) + 1

abbrev pub decreases-print_path : goal.decreases-print_path
decreases-print_path l = 2 * program_nodes (program l.path.now)

abbrev pub decreases-print_held : goal.decreases-print_held
decreases-print_held l = 2 * nodes (tree l.form.now) + 1

abbrev pub decreases-print_paths : goal.decreases-print_paths
decreases-print_paths l = 2 * (program_nodes (program l.left.now) + program_nodes (program l.right.now)) + 1

abbrev pub decreases-print_starred : goal.decreases-print_starred
decreases-print_starred l = 2 * program_nodes (program l.path.now) + 1
