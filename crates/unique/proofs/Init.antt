-- A line for each public function of `init`.
use Rattle.init.proofs.begin
use Rattle.init.proofs.card
use Rattle.init.proofs.identify
use Rattle.init.proofs.lent
use Rattle.init.proofs.speed
use Rattle.unique.specs.Unique.{Unique}
use Rattle.unique.proofs.Determined.{determined}
use Rattle.unique.proofs.Steps.{listed}

begin_begin_init : Unique begin.begin_init.Kinds.ps begin.begin_init.Kinds.r begin.begin_init.Reads.Learnt
begin_begin_init = determined _ λ _ _ _ p. listed p

begin_timed_out : Unique begin.timed_out.Kinds.ps begin.timed_out.Kinds.r begin.timed_out.Reads.Learnt
begin_timed_out = determined _ λ _ _ _ p. p

card-initialise : Unique card.initialise.Kinds.ps card.initialise.Kinds.r card.initialise.Reads.Learnt
card-initialise = determined _ λ _ _ _ p. listed p

card-with-scr : Unique card.with_scr.Kinds.ps card.with_scr.Kinds.r card.with_scr.Reads.Learnt
card-with-scr = determined _ λ _ _ _ p. p

identify_wait_power_up : Unique identify.wait_power_up.Kinds.ps identify.wait_power_up.Kinds.r identify.wait_power_up.Reads.Learnt
identify_wait_power_up = determined _ λ _ _ _ p. listed p

identify_no_card : Unique identify.no_card.Kinds.ps identify.no_card.Kinds.r identify.no_card.Reads.Learnt
identify_no_card = determined _ λ _ _ _ p. p

identify-identify : Unique identify.identify.Kinds.ps identify.identify.Kinds.r identify.identify.Reads.Learnt
identify-identify = determined _ λ _ _ _ p. listed p

identify_condition : Unique identify.condition.Kinds.ps identify.condition.Kinds.r identify.condition.Reads.Learnt
identify_condition = determined _ λ _ _ _ p. p

identify_class : Unique identify.class.Kinds.ps identify.class.Kinds.r identify.class.Reads.Learnt
identify_class = determined _ λ _ _ _ p. p

identify_described : Unique identify.described.Kinds.ps identify.described.Kinds.r identify.described.Reads.Learnt
identify_described = determined _ λ _ _ _ p. p

identify_agree : Unique identify.agree.Kinds.ps identify.agree.Kinds.r identify.agree.Reads.Learnt
identify_agree = determined _ λ _ _ _ p. p

identify-address : Unique identify.address.Kinds.ps identify.address.Kinds.r identify.address.Reads.Learnt
identify-address = determined _ λ _ _ _ p. p

lent-word : Unique lent.word.Kinds.ps lent.word.Kinds.r lent.word.Reads.Learnt
lent-word = determined _ λ _ _ _ p. p

lent_sixteen : Unique lent.sixteen.Kinds.ps lent.sixteen.Kinds.r lent.sixteen.Reads.Learnt
lent_sixteen = determined _ λ _ _ _ p. p

speed_fits : Unique speed.fits.Kinds.ps speed.fits.Kinds.r speed.fits.Reads.Learnt
speed_fits = determined _ λ _ _ _ p. p

speed_width : Unique speed.width.Kinds.ps speed.width.Kinds.r speed.width.Reads.Learnt
speed_width = determined _ λ _ _ _ p. p

speed_offers : Unique speed.offers.Kinds.ps speed.offers.Kinds.r speed.offers.Reads.Learnt
speed_offers = determined _ λ _ _ _ p. p

speed_took : Unique speed.took.Kinds.ps speed.took.Kinds.r speed.took.Reads.Learnt
speed_took = determined _ λ _ _ _ p. p

speed_fast : Unique speed.fast.Kinds.ps speed.fast.Kinds.r speed.fast.Reads.Learnt
speed_fast = determined _ λ _ _ _ p. p

speed_set_width : Unique speed.set_width.Kinds.ps speed.set_width.Kinds.r speed.set_width.Reads.Learnt
speed_set_width = determined _ λ _ _ _ p. listed p

speed_transfer_clock : Unique speed.transfer_clock.Kinds.ps speed.transfer_clock.Kinds.r speed.transfer_clock.Reads.Learnt
speed_transfer_clock = determined _ λ _ _ _ p. listed p

speed_switch_speed : Unique speed.switch_speed.Kinds.ps speed.switch_speed.Kinds.r speed.switch_speed.Reads.Learnt
speed_switch_speed = determined _ λ _ _ _ p. listed p
