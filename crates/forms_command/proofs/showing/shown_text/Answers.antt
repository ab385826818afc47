use Rattle.forms_command.proofs.showing.shown_text.Goals as goal

pub print_form-requires-2 : goal.print_form-requires-2
print_form-requires-2 c = record { proper = c.in_ok-normal.ensures.proper _ c.requires }
