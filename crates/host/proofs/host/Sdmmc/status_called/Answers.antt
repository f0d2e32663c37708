use Rattle.types.specs.declared.error.Error.TheVariants.{NoCard}
use mathlib.Core.Path.{ap, ◌∙◌}
use Rattle.tape.specs.Layout.{rows_in}
use Rattle.host.specs.Calls.{Came, called_of, untouched, status_from, status_came}
use Rattle.host.proofs.Ran.{if_true, if_false}
use Rattle.host.proofs.host.Sdmmc.status_called.Goals as goal

pub returns-then-self : goal.returns-then-self
unfolding status_came
returns-then-self c = let known = if_true (untouched c.args.self NoCard (rows_in c.args.rows.now)) c.if-self.true in
    record { answered = c.status_from.ensures.answered ∙ ap called_of known; listed = c.status_from.ensures.listed ∙ ap (λ (x : Came). x.list) known }

pub returns-else-self : goal.returns-else-self
unfolding status_came
returns-else-self c = let host = c.args.self in
    let l = rows_in c.args.rows.now in
    let none = if_false (status_from host c.args.script.now l) {y = untouched host NoCard l} c.if-self.false in
    record { answered = c.untouched.ensures l ∙ ap called_of none; listed = ap (λ (x : Came). x.list) none }
