-- A line for each public function of `book`.
use Rattle.book.proofs.layout
use Rattle.book.proofs.lines
use Rattle.unique.specs.Unique.{Unique}
use Rattle.unique.proofs.Determined.{determined}

layout_kind_of : Unique layout.Kind.of.Kinds.ps layout.Kind.of.Kinds.r layout.Kind.of.Reads.Learnt
layout_kind_of = determined _ λ _ _ _ p. p

layout_load : Unique layout.load.Kinds.ps layout.load.Kinds.r layout.load.Reads.Learnt
layout_load = determined _ λ _ _ _ p i. (p.laid i, p.placed i)

layout_word : Unique layout.word.Kinds.ps layout.word.Kinds.r layout.word.Reads.Learnt
layout_word = determined _ λ _ _ _ p. p

layout_head : Unique layout.head.Kinds.ps layout.head.Kinds.r layout.head.Reads.Learnt
layout_head = determined _ λ _ _ _ p. p

layout_call_at : Unique layout.call_at.Kinds.ps layout.call_at.Kinds.r layout.call_at.Reads.Learnt
layout_call_at = determined _ λ _ _ _ p. p

layout_contents : Unique layout.contents.Kinds.ps layout.contents.Kinds.r layout.contents.Reads.Learnt
layout_contents = determined _ λ _ _ _ p. p

layout_data_count : Unique layout.data_count.Kinds.ps layout.data_count.Kinds.r layout.data_count.Reads.Learnt
layout_data_count = determined _ λ _ _ _ p. p

layout_is_bad : Unique layout.is_bad.Kinds.ps layout.is_bad.Kinds.r layout.is_bad.Reads.Learnt
layout_is_bad = determined _ λ _ _ _ p. p

layout_open : Unique layout.«open».Kinds.ps layout.«open».Kinds.r layout.«open».Reads.Learnt
layout_open = determined _ λ _ _ _ p i. (p.1 i, p.0 i)

lines_put_host : Unique lines.put_host.Kinds.ps lines.put_host.Kinds.r lines.put_host.Reads.Learnt
lines_put_host = determined _ λ _ _ _ p i. (p i, tt)

lines_put_call : Unique lines.put_call.Kinds.ps lines.put_call.Kinds.r lines.put_call.Reads.Learnt
lines_put_call = determined _ λ _ _ _ p i. (p i, tt)
