-- The order's third demand in the order's own words, over the calls of one host and their outcomes, the latest in front. A
-- reader may believe this in place of `expected` (Serve.antt), which goes call by call as a host does: proofs/Order.antt shows
-- that of whatever calls a host was asked the two say the same.
use Rattle.std.specs.Prelude.{Bool, true, false, cond, ◌&&◌, ◌||◌, List, [], ◌∷◌, ◌≡◌, replicate, ℕ}
use Rattle.std.proofs.Math.Option.{Option, none, some}
use Rattle.types.specs.declared.card.Card.{Card}
use Rattle.types.specs.declared.error.Answer.{Answer}
use Rattle.types.specs.declared.error.Answer.TheVariants as Answered
use Rattle.types.specs.Words.{sd_status_of}
use Rattle.host.specs.declared.host.Held.{Held}
use Rattle.host.specs.Calls.{with_status}
use Rattle.calls.specs.Serve.{Call, initialise, read, write, status, Told, holds, holds_none, allowed}

unfoldable pub accepted : Answer → Bool
accepted Answered.Accepted = true
accepted (Answered.Refused e) = false
accepted Answered.ScriptEnded = false
accepted Answered.TraceFull = false
accepted Answered.BadBook = false

-- a script's end counts like other refusals
unfoldable pub refused : Answer → Bool
refused Answered.Accepted = false
refused (Answered.Refused e) = true
refused Answered.ScriptEnded = true
refused Answered.TraceFull = false
refused Answered.BadBook = false

-- an accepted initialisation
unfoldable pub initialises : Call → Answer → Bool
initialises (initialise frequency s l) answer = accepted answer
initialises (read index bytes s l) answer = false
initialises (write index bytes s l) answer = false
initialises (status s l) answer = false

-- an accepted status read
unfoldable pub reads_status : Call → Answer → Bool
reads_status (initialise frequency s l) answer = false
reads_status (read index bytes s l) answer = false
reads_status (write index bytes s l) answer = false
reads_status (status s l) answer = accepted answer

-- 'an initialisation of allowed frequency, or a call whose data phase had begun, was refused'
unfoldable pub loses : Call → Answer → Bool → Bool
loses (initialise frequency s l) answer begun = refused answer && allowed frequency
loses (read index bytes s l) answer begun = refused answer && begun
loses (write index bytes s l) answer begun = refused answer && begun
loses (status s l) answer begun = refused answer && begun

-- the record of the last accepted initialisation, and the calls since it
unfoldable pub last_record : List Told → Option Card
last_record [] = none
last_record (t ∷ earlier) = cond (initialises t.call t.answer) (some t.found) (last_record earlier)

unfoldable pub since : List Told → List Told
since [] = []
since (t ∷ earlier) = cond (initialises t.call t.answer) [] (t ∷ since earlier)

-- among these: the status of the last accepted status read, or zero; and whether the record was lost
unfoldable pub last_status : List Told → List ℕ
last_status [] = replicate 16 0
last_status (t ∷ earlier) = cond (reads_status t.call t.answer) (sd_status_of t.taken) (last_status earlier)

unfoldable pub lost : List Told → Bool
lost [] = false
lost (t ∷ earlier) = loses t.call t.answer t.begun || lost earlier

-- 'The record held is that of the last accepted initialisation, its status that of the last accepted status read since, or
-- zero. There is none before the first, nor once ..'
unfoldable pub due_of : Option Card → List Told → Held
due_of none ts = holds_none
due_of (some card) ts = cond (lost ts) holds_none (holds (with_status card (last_status ts)))

-- THE RECORD DUE
abbrev pub due : List Told → Held
due ts = due_of (last_record ts) (since ts)

-- what the calls of a host have come to, and not every list of outcomes: no status read is accepted where no record is held
unfoldable pub Possible : List Told → Type 0
Possible [] = Unit {0}
Possible (t ∷ earlier) = (reads_status t.call t.answer ≡ true → (due earlier).answer ≡ Answered.Accepted) × Possible earlier
