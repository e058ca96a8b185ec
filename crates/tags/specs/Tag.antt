-- What the rules say of a place inside a tag.
use Rattle.std.specs.Prelude.{ℕ, List, drop, ℤ, slice_index}
use Rattle.rules.specs.declared.BlockSentinel.{BlockSentinel}
use Rattle.rules.specs.Config.{Config}
use Rattle.rules.specs.Cursors.{config_at, behind, ahead}
use Rattle.tags.specs.declared.tag.Tag.{Tag}

-- a rule there: it takes the settings, the bytes read, what opened the tag, the balance, the first byte to come and those behind it
abbrev pub at_tag : {A : Type 0} → (Config → List ℕ → BlockSentinel → ℤ → ℕ → List ℕ → A) → Tag → A
at_tag f t = f (config_at t.here.now) (behind t.here.now) t.sentinel t.balance (slice_index (ahead t.here.now) 0) (drop 1 (ahead t.here.now))
