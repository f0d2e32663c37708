-- A call under way, told by the host before it and by what is ahead of it: its next reading, its next row, or its end.
use Rattle.std.specs.Prelude.{ℕ, List, ◌≡◌, Option, Some, None}
use Rattle.tape.specs.declared.progress.Line.{Line}
use Rattle.host.specs.declared.host.Sdmmc.{Sdmmc}
use Rattle.host.specs.Calls.{answer_for}
use Rattle.step.specs.Next.{Next, asks, tells, over, refused, next, heard, told, missed, Lent}
use Rattle.step.specs.Transfer.{words_by, held_by, HandedAt}
use Rattle.stepping.specs.Ahead.{phase_of, line_set, at_plan}
use Rattle.stepping.specs.Closing.{Closing}
use Rattle.stepping.specs.declared.call.Asked.{Asked}
use Rattle.stepping.specs.declared.call.At.{At}
use Rattle.stepping.specs.declared.call.At.TheVariants as A
use Rattle.stepping.specs.declared.call.Gets.TheVariants as G
use Rattle.stepping.specs.declared.call.Known.{Known}
use Rattle.underway.specs.declared.call.Call.{Call}
use Rattle.underway.specs.declared.call.Closed.{Closed}
use Rattle.stepping.specs.declared.call.End.{End}

pub record Under : Type 0 where
  pub before : Sdmmc
  pub ahead : Next Closing

-- `g` are the words that it is to send, and those that were handed out so far
abbrev pub under : Lent → Call → Under
under g c = record { before = c.job.host; ahead = next (at_plan c.job c.known c.held g c.at) c.line }

-- after a word; where no word will come; after a row; unasked, as it was
abbrev pub answered : Under → ℕ → Under
answered u w = record { before = u.before; ahead = heard u.ahead w }

abbrev pub unanswered : Under → Under
unanswered u = record { before = u.before; ahead = missed u.ahead }

abbrev pub written : Under → Under
written u = record { before = u.before; ahead = told u.ahead }

-- what it has come to: its answer and the next host, once it is over
abbrev pub closed_at : Sdmmc → Next Closing → Closed
closed_at host (over h c) = record { outcome = Some c.answer; host = c.host }
closed_at host (refused h c) = record { outcome = Some (answer_for c); host = host }
closed_at host (asks h r k z) = record { outcome = None; host = host }
closed_at host (tells h r p) = record { outcome = None; host = host }

unfoldable pub closed_of : Under → Closed
closed_of u = closed_at u.before u.ahead

-- WHERE IT STANDS. The words that it keeps after a word, where it stood at a data word; and the words that it has come to then
unfoldable pub kept_at : Asked → At → List ℕ → ℕ → List ℕ
kept_at q (A.Command s c) held w = held
kept_at q (A.Ready t r) held w = held
kept_at q (A.Data gets d) held w = held_by (phase_of q gets) d held w
kept_at q (A.Idle c n) held w = held
kept_at q (A.Tells t) held w = held
kept_at q (A.Over e) held w = held

unfoldable pub KeptAt : Asked → At → ℕ → List ℕ → Lent → List ℕ → Lent → Type 0
KeptAt q (A.Command s c) w held g held' g' = g'.sent ≡ g.sent
KeptAt q (A.Ready t r) w held g held' g' = g'.sent ≡ g.sent
KeptAt q (A.Data gets d) w held g held' g' =
    HandedAt (phase_of q gets) d w (words_by (phase_of q gets) held g) (words_by (phase_of q gets) held' g')
KeptAt q (A.Idle c n) w held g held' g' = Unit {0}
KeptAt q (A.Tells t) w held g held' g' = Unit {0}
KeptAt q (A.Over e) w held g held' g' = words_by (phase_of q G.Asked) held' g' ≡ words_by (phase_of q G.Asked) held g

-- what the host holds once a row of an initialisation is written
unfoldable pub line_at : Known → At → Line → Line
line_at k (A.Command s c) h = h
line_at k (A.Ready t r) h = h
line_at k (A.Data gets d) h = h
line_at k (A.Idle c n) h = h
line_at k (A.Tells t) h = line_set k t h
line_at k (A.Over e) h = h

-- whether it is over
unfoldable pub ends_at : At → Option End
ends_at (A.Command s c) = None
ends_at (A.Ready t r) = None
ends_at (A.Data gets d) = None
ends_at (A.Idle c n) = None
ends_at (A.Tells t) = None
ends_at (A.Over e) = Some e
