use Rattle.types.specs.declared.error.Answer.TheVariants.{Accepted, Refused}
use Rattle.types.specs.declared.error.Error.TheVariants.{NoCard}
use Rattle.init.specs.Initialise.{no_card}
use Rattle.host.specs.declared.host.Held.{Held}
use Rattle.host.proofs.Ran.{if_true, if_false}
use Rattle.host.proofs.host.Sdmmc.card.Goals as goal

abbrev none : Held
none = record { answer = Refused NoCard; card = no_card }

pub returns-then-self : goal.returns-then-self
returns-then-self c = if_true none c.if-self.true

pub returns-else-self : goal.returns-else-self
returns-else-self c = let host = c.args.self in
    let held : Held = record { answer = Accepted; card = host.card } in
    rw c.no_card.ensures (if_false held {y = none} c.if-self.false)
