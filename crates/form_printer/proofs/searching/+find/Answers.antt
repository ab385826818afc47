use Rattle.std.proofs.Common.{arith}
use Rattle.forms.specs.Tree.{tree, program}
use Rattle.forms.specs.Parts as listed
use Rattle.form_printer.proofs.PartsFound.{search-next}
use Rattle.form_printer.proofs.searching.+find.Goals as goal

pub find_behind-find_part-requires : goal.find_behind-find_part-requires
find_behind-find_part-requires t c = (omega arith, c.in-Err.ensures.some_left)

pub find_behind-returns-in-Err : goal.find_behind-returns-in-Err
find_behind-returns-in-Err t c =
    search-next (listed.test_parts (program c.args.path.now)) (listed.parts (tree c.args.form.now)) c.args.part c.in-Err.rest c.find_part.result c.in-Err.ensures c.find_part.ensures

pub find_in_both-find_part-requires-in-Err : goal.find_in_both-find_part-requires-in-Err
find_in_both-find_part-requires-in-Err t c = (omega arith, c.in-Err.ensures.some_left)

pub find_in_both-returns-in-Err : goal.find_in_both-returns-in-Err
find_in_both-returns-in-Err t c =
    search-next (listed.parts (tree c.args.left.now)) (listed.parts (tree c.args.right.now)) c.args.part c.in-Err.rest c.find_part-in-Err.result c.in-Err.ensures c.find_part-in-Err.ensures

pub find_in_paths-find_in_tests-requires-in-Err : goal.find_in_paths-find_in_tests-requires-in-Err
find_in_paths-find_in_tests-requires-in-Err t c = (omega arith, c.in-Err.ensures.some_left)

pub find_in_paths-returns-in-Err : goal.find_in_paths-returns-in-Err
find_in_paths-returns-in-Err t c =
    search-next (listed.test_parts (program c.args.left.now)) (listed.test_parts (program c.args.right.now)) c.args.part c.in-Err.rest c.find_in_tests-in-Err.result c.in-Err.ensures c.find_in_tests-in-Err.ensures
