use mathlib.Core.Path.{ap, ◌∙◌}
use Rattle.std.specs.Prelude.{Some, None}
use Rattle.book.specs.declared.layout.Kind.TheVariants.{Initialise, Read, Status, Write}
use Rattle.book.proofs.Numbers.{its_number}
use Rattle.telling.proofs.ByKind.{stands, initialises, reads, writes, asks-status, asks-other}
use Rattle.telling.proofs.begin.Goals as goal

pub returns-in-Some-Initialise : goal.returns-in-Some-Initialise
returns-in-Some-Initialise c = let a = c.args in
    let number = its_number a.asked.kind c.of.ensures (Some Initialise) (c.in-Some-Initialise.is ∙ ap Some c.in-Some-Initialise.field-0-is) in
    λ g. c.init_card.ensures g ∙ stands a.host (initialises a.host a.asked.kind a.asked.a g.sent a.bytes number)

pub returns-in-Some-Read : goal.returns-in-Some-Read
returns-in-Some-Read c = let a = c.args in
    let number = its_number a.asked.kind c.of.ensures (Some Read) (c.in-Some-Read.is ∙ ap Some c.in-Some-Read.field-0-is) in
    λ g. c.read_blocks.ensures g ∙ stands a.host (reads a.host a.asked.kind a.asked.a g.sent a.bytes number)

pub returns-in-Some-Write : goal.returns-in-Some-Write
returns-in-Some-Write c = let a = c.args in
    let number = its_number a.asked.kind c.of.ensures (Some Write) (c.in-Some-Write.is ∙ ap Some c.in-Some-Write.field-0-is) in
    λ g. c.write_blocks.ensures g ∙ stands a.host (writes a.host a.asked.kind a.asked.a g.sent a.bytes number)

pub returns-in-Some-Status : goal.returns-in-Some-Status
returns-in-Some-Status c = let a = c.args in
    let number = its_number a.asked.kind c.of.ensures (Some Status) (c.in-Some-Status.is ∙ ap Some c.in-Some-Status.field-0-is) in
    λ g. c.read_sd_status.ensures g ∙ stands a.host (asks-status a.host a.asked.kind a.asked.a g.sent a.bytes number)

pub returns-in-None : goal.returns-in-None
returns-in-None c = let a = c.args in
    let number = its_number a.asked.kind c.of.ensures (None) c.in-None.is in
    λ g. c.read_sd_status-in-None.ensures g ∙ stands a.host (asks-other a.host a.asked.kind a.asked.a g.sent a.bytes number)
