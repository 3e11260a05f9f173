-- `decoder::read_edit` meets its contract: each kind has its decoder, Add and Correct one for both forms.
use mathlib.Core.Path.{sym, ap, ◌∙◌}
use Rattle.words.specs.Tests.{all_hold}
use Rattle.frames.specs.declared.Kind.{Kind}
use Rattle.frames.specs.Requests.{add_in, correct_in, add_in_minutes, correct_in_minutes, edit_of_kind, angles_of_kind}
use Rattle.frames.specs.Fields.{add_read, correct_read, read_edit}
use Rattle.frames.specs.Kinds.{kind_number}
use Rattle.decoder.proofs.read_edit.Goals as goal

pub returns-in-Add : goal.returns-in-Add
unfolding add_read read_edit edit_of_kind angles_of_kind add_in
returns-in-Add c = c.read_add.ensures ∙ ap (λ (kind : Kind). read_edit (kind_number kind) c.args.part.now) (sym c.in-Add.is)

pub returns-in-AddInMinutes : goal.returns-in-AddInMinutes
unfolding add_read read_edit edit_of_kind angles_of_kind add_in_minutes
returns-in-AddInMinutes c = c.read_add-in-AddInMinutes.ensures ∙ ap (λ (kind : Kind). read_edit (kind_number kind) c.args.part.now) (sym c.in-AddInMinutes.is)

pub returns-in-Correct : goal.returns-in-Correct
unfolding correct_read read_edit edit_of_kind angles_of_kind correct_in all_hold
returns-in-Correct c = c.read_correct.ensures ∙ ap (λ (kind : Kind). read_edit (kind_number kind) c.args.part.now) (sym c.in-Correct.is)

pub returns-in-CorrectInMinutes : goal.returns-in-CorrectInMinutes
unfolding correct_read read_edit edit_of_kind angles_of_kind correct_in_minutes all_hold
returns-in-CorrectInMinutes c = c.read_correct-in-CorrectInMinutes.ensures ∙ ap (λ (kind : Kind). read_edit (kind_number kind) c.args.part.now) (sym c.in-CorrectInMinutes.is)

pub returns-in-Strike : goal.returns-in-Strike
unfolding read_edit edit_of_kind angles_of_kind
returns-in-Strike c = c.read_strike.ensures ∙ ap (λ (kind : Kind). read_edit (kind_number kind) c.args.part.now) (sym c.in-Strike.is)

pub returns-in-Move : goal.returns-in-Move
unfolding read_edit edit_of_kind angles_of_kind
returns-in-Move c = c.read_move.ensures ∙ ap (λ (kind : Kind). read_edit (kind_number kind) c.args.part.now) (sym c.in-Move.is)
