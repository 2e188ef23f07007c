-- What a call that only writes leaves of a device.
use Rattle.std.specs.Prelude.{◌≡◌, Result}
use Rattle.std.specs.Io.KnownBytes.{Keeps}
use Rattle.ghc_console.specs.declared.devices.device.Device.{Ghosts}
use Rattle.ghc_console.specs.inner.Device.{Counts}

-- Nothing was read: what is to come is as it was, and so is what the reads are counted as.
pub record ReadsNothing {D : Type 0} (g : Ghosts D) (old new : D) : Type 0 where
  pub unread : Keeps (g.unread old) (g.unread new)
  pub earlier : g.earlier new ≡ g.earlier old
  pub latest : g.latest new ≡ g.latest old

-- Nothing was read, and a call that failed was counted.
pub record OnlyWrites {D T E : Type 0} (g : Ghosts D) (old new : D) (result : Result T E) : Type 0 where
  pub reads : ReadsNothing g old new
  pub count : Counts (g.failures old) (g.failures new) result
