use mathlib.Core.Path.{refl}
use Rattle.telling.specs.Told.{evented}
use Rattle.telling.proofs.Lines.{as_leaf, still-fits}
use Rattle.telling.proofs.tell_event.Goals as goal

pub returns-in-Read : goal.returns-in-Read
unfolding evented
returns-in-Read g c = let told = c.tell_event.ensures in
    record { fits = still-fits told c.requires; told = rw c.in-Read.is (as_leaf told) }

pub returns-in-Missed : goal.returns-in-Missed
unfolding evented
returns-in-Missed g c = let told = c.tell_event-in-Missed.ensures in
    record { fits = still-fits told c.requires; told = rw c.in-Missed.is (as_leaf told) }

pub returns-in-Wrote : goal.returns-in-Wrote
unfolding evented
returns-in-Wrote g c = let told = c.tell_event-in-Wrote.ensures in
    record { fits = still-fits told c.requires; told = rw c.in-Wrote.is (as_leaf told) }

pub returns-in-Full : goal.returns-in-Full
unfolding evented
returns-in-Full g c = record { fits = c.requires; told = rw c.in-Full.is refl }

pub returns-in-Over : goal.returns-in-Over
unfolding evented
returns-in-Over g c = record { fits = c.requires; told = rw c.in-Over.is refl }
