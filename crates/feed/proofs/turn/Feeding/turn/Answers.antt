use Prim.Native.Nat.{ℕ}
use mathlib.Core.Path.{refl, ap, sym, ◌∙◌}
use Rattle.types.specs.Words.{words_of}
use Rattle.tape.specs.Layout.{rows_in}
use Rattle.tape.specs.Rows.{FIFO}
use Rattle.feed.specs.Turns.{lent, way_of, turn_by, taken_at}
use Rattle.feed.proofs.Fed as F
use Rattle.step.specs.Next.{filled_in}
use Rattle.step.specs.declared.wants.Wants.TheVariants as W
use Rattle.feed.proofs.turn.Feeding.turn.Goals as goal

pub returns-in-Read : goal.returns-in-Read
unfolding filled_in
returns-in-Read c = let a = c.args in
    let sent = words_of a.data.now in
    λ taken.
    let asked = ap (filled_in sent) (sym c.in-Read.is) ∙ c.wants-wants.ensures (lent sent taken) in
    F.as_wanted _ (way_of (lent sent taken) a.self) _ _ _ asked (c.reads.ensures (lent sent taken) _ asked)

pub returns-in-Write : goal.returns-in-Write
unfolding filled_in
returns-in-Write c = let a = c.args in
    let sent = words_of a.data.now in
    λ taken.
    let asked = ap (filled_in sent) (sym c.in-Write.is) ∙ c.wants-wants.ensures (lent sent taken) in
    F.as_wanted _ (way_of (lent sent taken) a.self) _ _ _ asked (c.writes.ensures (lent sent taken) _ asked)

pub returns-in-Send : goal.returns-in-Send
unfolding filled_in
returns-in-Send c = let a = c.args in
    let sent = words_of a.data.now in
    let word = c.word_at.ensures in
    λ taken.
    let asked = ap (λ (w : ℕ). W.Write (record { register = FIFO; value = w })) word ∙ ap (filled_in sent) (sym c.in-Send.is) ∙ c.wants-wants.ensures (lent sent taken) in
    F.as_wanted _ (way_of (lent sent taken) a.self) _ _ _ asked (c.writes-in-Send.ensures (lent sent taken) _ asked)

pub returns-in-Nothing : goal.returns-in-Nothing
unfolding turn_by taken_at filled_in
returns-in-Nothing c = let a = c.args in
    let sent = words_of a.data.now in
    λ taken. F.as_wanted a.script.now (way_of (lent sent taken) a.self) (rows_in a.rows.now) W.Nothing _ (ap (filled_in sent) (sym c.in-Nothing.is) ∙ c.wants-wants.ensures (lent sent taken)) refl
