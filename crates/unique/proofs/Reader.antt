-- A line for each public function of `reader`.
use Rattle.reader.proofs as functions
use Rattle.unique.specs.Unique.{Unique}
use Rattle.unique.proofs.Determined.{determined}

reader-new : Unique functions.Reader.new.Kinds.ps functions.Reader.new.Kinds.r functions.Reader.new.Reads.Learnt
reader-new = determined _ λ _ _ _ p. p

reader-moved : Unique functions.Reader.moved.Kinds.ps functions.Reader.moved.Kinds.r functions.Reader.moved.Reads.Learnt
reader-moved = determined _ λ _ _ _ p. p

reader-here : Unique functions.Reader.here.Kinds.ps functions.Reader.here.Kinds.r functions.Reader.here.Reads.Learnt
reader-here = determined _ λ _ _ _ p. p

reader-left : Unique functions.Reader.left.Kinds.ps functions.Reader.left.Kinds.r functions.Reader.left.Reads.Learnt
reader-left = determined _ λ _ _ _ p. p

word : Unique functions.word.Kinds.ps functions.word.Kinds.r functions.word.Reads.Learnt
word = determined _ λ _ _ _ p. p

left-from : Unique functions.left_from.Kinds.ps functions.left_from.Kinds.r functions.left_from.Reads.Learnt
left-from = determined _ λ _ _ _ p. p
