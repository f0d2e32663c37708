-- A line for each public function of `types`.
use Rattle.types.proofs.card
use Rattle.types.proofs.clock
use Rattle.types.proofs.config
use Rattle.types.proofs.error
use Rattle.types.proofs.register
use Rattle.types.proofs.status
use Rattle.types.proofs.words
use Rattle.unique.specs.Unique.{Unique}
use Rattle.unique.proofs.Determined.{determined}

card-card-size : Unique card.Card.size.Kinds.ps card.Card.size.Kinds.r card.Card.size.Reads.Learnt
card-card-size = determined _ λ _ _ _ p. p

card-block-address : Unique card.block_address.Kinds.ps card.block_address.Kinds.r card.block_address.Reads.Learnt
card-block-address = determined _ λ _ _ _ p. p

clock-clock-setting : Unique clock.clock_setting.Kinds.ps clock.clock_setting.Kinds.r clock.clock_setting.Reads.Learnt
clock-clock-setting = determined _ λ _ _ _ p. p

config_config_default : Unique config.ConfigDefault.default.Kinds.ps config.ConfigDefault.default.Kinds.r config.ConfigDefault.default.Reads.Learnt
config_config_default = determined _ λ _ _ _ p. p

config-config-judge : Unique config.Config.judge.Kinds.ps config.Config.judge.Kinds.r config.Config.judge.Reads.Learnt
config-config-judge = determined _ λ _ _ _ p. p

error_field_number : Unique error.Field.number.Kinds.ps error.Field.number.Kinds.r error.Field.number.Reads.Learnt
error_field_number = determined _ λ _ _ _ p. p

error-error-number : Unique error.Error.number.Kinds.ps error.Error.number.Kinds.r error.Error.number.Reads.Learnt
error-error-number = determined _ λ _ _ _ p. p

error-error-word : Unique error.Error.word.Kinds.ps error.Error.word.Kinds.r error.Error.word.Reads.Learnt
error-error-word = determined _ λ _ _ _ p. p

error-answer-number : Unique error.Answer.number.Kinds.ps error.Answer.number.Kinds.r error.Answer.number.Reads.Learnt
error-answer-number = determined _ λ _ _ _ p. p

error-answer-word : Unique error.Answer.word.Kinds.ps error.Answer.word.Kinds.r error.Answer.word.Reads.Learnt
error-answer-word = determined _ λ _ _ _ p. p

register-wide-structure : Unique register.Wide.structure.Kinds.ps register.Wide.structure.Kinds.r register.Wide.structure.Reads.Learnt
register-wide-structure = determined _ λ _ _ _ p. p

register-wide-transfer-rate : Unique register.Wide.transfer_rate.Kinds.ps register.Wide.transfer_rate.Kinds.r register.Wide.transfer_rate.Reads.Learnt
register-wide-transfer-rate = determined _ λ _ _ _ p. p

register_blockcount_bytes : Unique register.BlockCount.bytes.Kinds.ps register.BlockCount.bytes.Kinds.r register.BlockCount.bytes.Reads.Learnt
register_blockcount_bytes = determined _ λ _ _ _ p. p

register-protection-of : Unique register.Protection.of.Kinds.ps register.Protection.of.Kinds.r register.Protection.of.Reads.Learnt
register-protection-of = determined _ λ _ _ _ p. p

register-protection-stops-writes : Unique register.Protection.stops_writes.Kinds.ps register.Protection.stops_writes.Kinds.r register.Protection.stops_writes.Reads.Learnt
register-protection-stops-writes = determined _ λ _ _ _ p. p

register-protection-number : Unique register.Protection.number.Kinds.ps register.Protection.number.Kinds.r register.Protection.number.Reads.Learnt
register-protection-number = determined _ λ _ _ _ p. p

register-block-count : Unique register.block_count.Kinds.ps register.block_count.Kinds.r register.block_count.Reads.Learnt
register-block-count = determined _ λ _ _ _ p. p

register-transfer-rate : Unique register.transfer_rate.Kinds.ps register.transfer_rate.Kinds.r register.transfer_rate.Reads.Learnt
register-transfer-rate = determined _ λ _ _ _ p. p

status_data_error : Unique status.data_error.Kinds.ps status.data_error.Kinds.r status.data_error.Reads.Learnt
status_data_error = determined _ λ _ _ _ p. p

status_cardstatus_ready : Unique status.CardStatus.ready.Kinds.ps status.CardStatus.ready.Kinds.r status.CardStatus.ready.Reads.Learnt
status_cardstatus_ready = determined _ λ _ _ _ p. p

status-scr-version : Unique status.Scr.version.Kinds.ps status.Scr.version.Kinds.r status.Scr.version.Reads.Learnt
status-scr-version = determined _ λ _ _ _ p. p

status-scr-bus-width-one : Unique status.Scr.bus_width_one.Kinds.ps status.Scr.bus_width_one.Kinds.r status.Scr.bus_width_one.Reads.Learnt
status-scr-bus-width-one = determined _ λ _ _ _ p. p

status-scr-bus-width-four : Unique status.Scr.bus_width_four.Kinds.ps status.Scr.bus_width_four.Kinds.r status.Scr.bus_width_four.Reads.Learnt
status-scr-bus-width-four = determined _ λ _ _ _ p. p

words_little : Unique words.little.Kinds.ps words.little.Kinds.r words.little.Reads.Learnt
words_little = determined _ λ _ _ _ p. p

words_fill : Unique words.fill.Kinds.ps words.fill.Kinds.r words.fill.Reads.Learnt
words_fill = determined _ λ _ _ _ p i. (p i, tt)

words-status-bytes : Unique words.status_bytes.Kinds.ps words.status_bytes.Kinds.r words.status_bytes.Reads.Learnt
words-status-bytes = determined _ λ _ _ _ p. p

words_from_be : Unique words.from_be.Kinds.ps words.from_be.Kinds.r words.from_be.Reads.Learnt
words_from_be = determined _ λ _ _ _ p. p

words_sd_status : Unique words.sd_status.Kinds.ps words.sd_status.Kinds.r words.sd_status.Reads.Learnt
words_sd_status = determined _ λ _ _ _ p. p

words-joined : Unique words.joined.Kinds.ps words.joined.Kinds.r words.joined.Reads.Learnt
words-joined = determined _ λ _ _ _ p. p

words-response-value : Unique words.response_value.Kinds.ps words.response_value.Kinds.r words.response_value.Reads.Learnt
words-response-value = determined _ λ _ _ _ p. p

words-scr-value : Unique words.scr_value.Kinds.ps words.scr_value.Kinds.r words.scr_value.Reads.Learnt
words-scr-value = determined _ λ _ _ _ p i. record { 0 = p i }
