use Rattle.std.proofs.Common.{◌+◌, ◌*◌}
use Rattle.forms.specs.Tree.{tree, program, nodes, program_nodes}
use Rattle.form_printer.proofs.searching.+find.Given as goal

abbrev pub decreases-find_part : goal.decreases-find_part
decreases-find_part l = 3 * nodes (tree l.form.now) + 1

abbrev pub decreases-find_in_operands : goal.decreases-find_in_operands
decreases-find_in_operands l = 3 * nodes (tree l.form.now)

abbrev pub decreases-find_in_both : goal.decreases-find_in_both
decreases-find_in_both l = 3 * (nodes (tree l.left.now) + nodes (tree l.right.now)) + 2

abbrev pub decreases-find_behind : goal.decreases-find_behind
decreases-find_behind l = 3 * (program_nodes (program l.path.now) + nodes (tree l.form.now)) + 2

abbrev pub decreases-find_in_tests : goal.decreases-find_in_tests
decreases-find_in_tests l = 3 * program_nodes (program l.path.now) + 1

abbrev pub decreases-find_in_paths : goal.decreases-find_in_paths
decreases-find_in_paths l = 3 * (program_nodes (program l.left.now) + program_nodes (program l.right.now)) + 2
