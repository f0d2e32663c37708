use Rattle.host.proofs.Ran.{status-read}
use Rattle.host.proofs.host.Sdmmc.blocking_read_sd_status.Goals as goal

pub returns : goal.returns
returns c = record { answered = status-read _ _ _ _ _ c.status_called-called.ensures.answered c.given_status.ensures; listed = c.status_called-called.ensures.listed }
