use mathlib.Core.List.{[]}
use Rattle.host.proofs.host.Sdmmc.ends_before.Goals as goal

pub returns : goal.returns
returns c = λ l. rw c.with-kept.ensures at (c.ends.ensures c.args.self [] l)
