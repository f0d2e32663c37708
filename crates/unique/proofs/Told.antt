-- The answers of the plain functions, told by document 01's leaf rules (types/specs/Rules.antt): a line for each.
use mathlib.Core.Path.{ap, ◌∙◌}
use Rattle.types.specs.Answer.{clock_told, count_told, size_told, rate_told, address_told, config_told, data_told}
use Rattle.types.specs.Rules.{clock_rule, data_rule, count_rule, rate_rule, address_rule, size_rule, made_rule}
use Rattle.types.specs.Sd.{wide_of}
use Rattle.types.proofs.card
use Rattle.types.proofs.clock
use Rattle.types.proofs.config
use Rattle.types.proofs.register
use Rattle.types.proofs.status
use Rattle.types.proofs.Told as T
use Rattle.unique.specs.Tells.{Tells}

-- source, request, whether bypass is allowed
pub clock-told : Tells clock.clock_setting.Kinds.ps clock.clock_setting.Kinds.r clock.clock_setting.Reads.Learnt
    (λ _. clock_told) (λ _ a. clock_rule a.0.0 a.1.0.0 a.1.1.0)
clock-told = record { says = λ _ a _ p. ap clock_told p ∙ T.clock a.0.0 a.1.0.0 a.1.1.0 }

-- the status word of a data transfer
pub data-told : Tells status.data_error.Kinds.ps status.data_error.Kinds.r status.data_error.Reads.Learnt (λ _. data_told) (λ _ a. data_rule a.0)
data-told = record { says = λ _ a _ p. ap data_told p ∙ T.status a.0 }

-- the CSD
pub count-told : Tells register.block_count.Kinds.ps register.block_count.Kinds.r register.block_count.Reads.Learnt
    (λ _. count_told) (λ _ a. count_rule (wide_of a.0))
count-told = record { says = λ _ a _ p. ap count_told p ∙ T.count (wide_of a.0) }

-- the byte in its bits 103:96
pub rate-told : Tells register.transfer_rate.Kinds.ps register.transfer_rate.Kinds.r register.transfer_rate.Reads.Learnt
    (λ _. rate_told) (λ _ a. rate_rule a.0)
rate-told = record { says = λ _ a _ p. ap rate_told p ∙ T.rate a.0 }

-- class and blocks of the card, index, count
pub address-told : Tells card.block_address.Kinds.ps card.block_address.Kinds.r card.block_address.Reads.Learnt
    (λ _. address_told) (λ _ a. address_rule a.0 a.1.0.0 a.1.1.0 a.1.1.1.0)
address-told = record { says = λ _ a _ p. ap address_told p ∙ T.address a.0 a.1.0.0 a.1.1.0 a.1.1.1.0 }

-- a count of blocks, and a card's
pub bytes-told : Tells register.BlockCount.bytes.Kinds.ps register.BlockCount.bytes.Kinds.r register.BlockCount.bytes.Reads.Learnt
    (λ _. size_told) (λ _ a. size_rule a.0.0)
bytes-told = record { says = λ _ a _ p. ap size_told p ∙ T.size a.0.0 }

pub size-told : Tells card.Card.size.Kinds.ps card.Card.size.Kinds.r card.Card.size.Reads.Learnt
    (λ _. size_told) (λ _ a. size_rule a.0.block_count.0)
size-told = record { says = λ _ a _ p. ap size_told p ∙ T.size a.0.block_count.0 }

-- settings, and the source
pub judge-told : Tells config.Config.judge.Kinds.ps config.Config.judge.Kinds.r config.Config.judge.Reads.Learnt
    (λ _. config_told) (λ _ a. made_rule a.1.0.0 a.0)
judge-told = record { says = λ _ a _ p. ap config_told p ∙ T.settings a.1.0.0 a.0 }
