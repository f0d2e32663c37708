-- A line for each public function of `host`.
use mathlib.Core.List.{[]}
use Rattle.host.proofs.blocks
use Rattle.host.proofs.calls
use Rattle.host.proofs.host
use Rattle.unique.specs.Unique.{Unique, UniqueIn}
use Rattle.unique.proofs.Determined.{determined, part-determined}
use Rattle.unique.proofs.Steps.{by-words}

blocks_fill_blocks : Unique blocks.fill_blocks.Kinds.ps blocks.fill_blocks.Kinds.r blocks.fill_blocks.Reads.Learnt
blocks_fill_blocks = determined _ λ _ _ _ p i. (p i, tt)

calls-with-status : Unique calls.with_status.Kinds.ps calls.with_status.Kinds.r calls.with_status.Reads.Learnt
calls-with-status = determined _ λ _ _ _ p. p

calls-given-status : Unique calls.given_status.Kinds.ps calls.given_status.Kinds.r calls.given_status.Reads.Learnt
calls-given-status = determined _ λ _ _ _ p. p

host_sdmmc_blocking_init_card : Unique host.Sdmmc.blocking_init_card.Kinds.ps host.Sdmmc.blocking_init_card.Kinds.r host.Sdmmc.blocking_init_card.Reads.Learnt
host_sdmmc_blocking_init_card = determined _ λ _ _ _ p. by-words p.1 p.0

host_sdmmc_blocking_read_sd_status : Unique host.Sdmmc.blocking_read_sd_status.Kinds.ps host.Sdmmc.blocking_read_sd_status.Kinds.r host.Sdmmc.blocking_read_sd_status.Reads.Learnt
host_sdmmc_blocking_read_sd_status = determined _ λ _ _ _ p. by-words p.1 p.0

host_sdmmc_judged : Unique host.Sdmmc.judged.Kinds.ps host.Sdmmc.judged.Kinds.r host.Sdmmc.judged.Reads.Learnt
host_sdmmc_judged = determined _ λ _ _ _ p. p

host_sdmmc_blocking_read_blocks : Unique host.Sdmmc.blocking_read_blocks.Kinds.ps host.Sdmmc.blocking_read_blocks.Kinds.r host.Sdmmc.blocking_read_blocks.Reads.Learnt
host_sdmmc_blocking_read_blocks = determined _ λ _ _ _ p. by-words p.1.0 (λ i. (p.1.1 i, p.0 i))

host_sdmmc_blocking_write_blocks : Unique host.Sdmmc.blocking_write_blocks.Kinds.ps host.Sdmmc.blocking_write_blocks.Kinds.r host.Sdmmc.blocking_write_blocks.Reads.Learnt
host_sdmmc_blocking_write_blocks = determined _ λ _ _ _ p. by-words p.1 p.0

host_fresh_line : Unique host.fresh_line.Kinds.ps host.fresh_line.Kinds.r host.fresh_line.Reads.Learnt
host_fresh_line = determined _ λ _ _ _ p. p

host-start : Unique host.start.Kinds.ps host.start.Kinds.r host.start.Reads.Learnt
host-start = determined _ λ _ _ _ p. p

host_sdmmc_new : Unique host.Sdmmc.new.Kinds.ps host.Sdmmc.new.Kinds.r host.Sdmmc.new.Reads.Learnt
host_sdmmc_new = determined _ λ _ _ _ p. p

host_sdmmc_card : Unique host.Sdmmc.card.Kinds.ps host.Sdmmc.card.Kinds.r host.Sdmmc.card.Reads.Learnt
host_sdmmc_card = determined _ λ _ _ _ p. p

host_sdmmc_clock : Unique host.Sdmmc.clock.Kinds.ps host.Sdmmc.clock.Kinds.r host.Sdmmc.clock.Reads.Learnt
host_sdmmc_clock = determined _ λ _ _ _ p. p

host_sdmmc_signalling : Unique host.Sdmmc.signalling.Kinds.ps host.Sdmmc.signalling.Kinds.r host.Sdmmc.signalling.Reads.Learnt
host_sdmmc_signalling = determined _ λ _ _ _ p. p

host_sdmmc_with : Unique host.Sdmmc.with.Kinds.ps host.Sdmmc.with.Kinds.r host.Sdmmc.with.Reads.Learnt
host_sdmmc_with = determined _ λ _ _ _ p. p

host_sdmmc_untouched : Unique host.Sdmmc.untouched.Kinds.ps host.Sdmmc.untouched.Kinds.r host.Sdmmc.untouched.Reads.Learnt
host_sdmmc_untouched = determined _ λ _ _ _ p. p []

host_sdmmc_called : Unique host.Sdmmc.called.Kinds.ps host.Sdmmc.called.Kinds.r host.Sdmmc.called.Reads.Learnt
host_sdmmc_called = determined _ λ _ _ _ p. p

host_sdmmc_ends : Unique host.Sdmmc.ends.Kinds.ps host.Sdmmc.ends.Kinds.r host.Sdmmc.ends.Reads.Learnt
host_sdmmc_ends = determined _ λ _ a _ p. p a.0 [] []

-- An exception: what it gives is lent. What it holds is promised, and not where it lies.
blocks-part : UniqueIn blocks.part.Kinds.ps blocks.part.Kinds.r blocks.part.Reads.Learnt (λ _ _ x. x.0.now)
blocks-part = part-determined _ λ _ _ _ p. p
