-- A line for each public function of `feed`.
use Prim.Native.Nat.{ℕ}
use mathlib.Core.List.{List, []}
use mathlib.Core.Path.{ap}
use Rattle.types.specs.Words.{words_of}
use Rattle.tape.specs.Layout.{rows_in}
use Rattle.feed.specs.Turns.{Turned, turned_of, lent}
use Rattle.feed.proofs.feed
use Rattle.feed.proofs.turn
use Rattle.unique.specs.Unique.{Unique, UniqueIn}
use Rattle.unique.proofs.Determined.{determined, part-determined}
use Rattle.unique.proofs.Steps.{by-words}

turn-event-goes-on : Unique turn.Event.goes_on.Kinds.ps turn.Event.goes_on.Kinds.r turn.Event.goes_on.Reads.Learnt
turn-event-goes-on = determined _ λ _ _ _ p. p

turn_feeding_begin : Unique turn.Feeding.begin.Kinds.ps turn.Feeding.begin.Kinds.r turn.Feeding.begin.Reads.Learnt
turn_feeding_begin = determined _ λ _ _ _ p. p

turn_feeding_called : Unique turn.Feeding.called.Kinds.ps turn.Feeding.called.Kinds.r turn.Feeding.called.Reads.Learnt
turn_feeding_called = determined _ λ _ _ _ p. p (lent [] [])

feed_feed : Unique feed.feed.Kinds.ps feed.feed.Kinds.r feed.feed.Reads.Learnt
feed_feed = determined _ λ _ _ _ p. by-words p.1.0 (λ i. record { called = p.0 i; place = p.1.1 i })

feed_init_card : Unique feed.init_card.Kinds.ps feed.init_card.Kinds.r feed.init_card.Reads.Learnt
feed_init_card = determined _ λ _ _ _ p. by-words p.1 p.0

feed_read_sd_status : Unique feed.read_sd_status.Kinds.ps feed.read_sd_status.Kinds.r feed.read_sd_status.Reads.Learnt
feed_read_sd_status = determined _ λ _ _ _ p. by-words p.1 p.0

feed_read_blocks : Unique feed.read_blocks.Kinds.ps feed.read_blocks.Kinds.r feed.read_blocks.Reads.Learnt
feed_read_blocks = determined _ λ _ _ _ p. by-words p.1.0 (λ i. (p.1.1 i, p.0 i))

feed_write_blocks : Unique feed.write_blocks.Kinds.ps feed.write_blocks.Kinds.r feed.write_blocks.Reads.Learnt
feed_write_blocks = determined _ λ _ _ _ p. by-words p.1 p.0

-- An exception: the call under way after a turn. What came about, what is ahead, the words taken, the rows written, the data
-- words' place and the list are promised, and not the state.
turn_feeding_turn : UniqueIn turn.Feeding.turn.Kinds.ps turn.Feeding.turn.Kinds.r turn.Feeding.turn.Reads.Learnt
    {X = λ _ _. List ℕ → List ℕ × Turned}
    (λ _ a x taken. (x.1.1.1.1.0, turned_of (lent (words_of a.1.1.0.now) taken) x.0 (rows_in x.1.1.1.1.0)))
turn_feeding_turn = part-determined _ λ _ _ _ p i taken. by-words (ap (λ (t : Turned). t.list) (p taken)) (p taken) i
