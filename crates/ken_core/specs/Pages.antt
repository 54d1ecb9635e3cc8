-- Whole pages within so many bytes.
use Rattle.std.specs.Prelude.{◌≡◌, ℕ, ◌+◌, ◌*◌, ◌≤◌, List, length}
use Rattle.std.specs.List.{AllByRecursion}
use Rattle.ken_record.specs.declared.page.Page.{Page}
use Rattle.ken_cover.specs.declared.layers.Change.{Change}
use Rattle.ken_cover.specs.declared.layers.Layer.{Layer}

abbrev pub IsFit : ℕ → Page → Type 0
IsFit size e = (256 * e.page + 256 ≤ size) × (length e.bytes ≡ 256)

-- those of changes, and of layers
abbrev pub AreFit : ℕ → List Change → Type 0
AreFit size cs = AllByRecursion (λ (c : Change). IsFit size c.page) cs

abbrev pub HaveFit : ℕ → List Layer → Type 0
HaveFit size ls = AllByRecursion (λ (l : Layer). AreFit size l.changes) ls
