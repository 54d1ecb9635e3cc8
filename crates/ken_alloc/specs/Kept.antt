-- Bytes that stay when others are written.
use Rattle.std.specs.Prelude.{◌≡◌, ℕ, ◌+◌, ◌≤◌, List, length}
use Rattle.ken_model.specs.Layout.{part}

-- all bytes but those between two places are as they were
pub record KeepsOutside (lo hi : ℕ) (old new : List ℕ) : Type 0 where
  pub long : length new ≡ length old
  pub below : (at n : ℕ) → at + n ≤ lo → part at n new ≡ part at n old
  pub above : (at n : ℕ) → hi ≤ at → part at n new ≡ part at n old
