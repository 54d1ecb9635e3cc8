-- What a kept record shows.
use Rattle.std.specs.Prelude.{ℕ, List, []}
use Rattle.ken_record.specs.declared.page.Page.{Page}
use Rattle.ken_store.specs.declared.kept.PageList.{PageList}
use Rattle.ken_store.specs.declared.kept.PageList.TheVariants as pages
use Rattle.ken_store.specs.declared.kept.Told.{Told}
use Rattle.ken_store.specs.declared.kept.Told.TheVariants as told

abbrev pub pages_in : PageList → List Page
pages_in pages.None = []
pages_in (pages.One ps) = ps
pages_in (pages.Two ps) = ps
pages_in (pages.Three ps) = ps
pages_in (pages.Four ps) = ps
pages_in (pages.Many ps) = ps.items

abbrev pub from_in : Told → ℕ
from_in (told.Sealed s) = s.value.from
from_in (told.Read s) = s.value.from

abbrev pub number_in : Told → ℕ
number_in (told.Sealed s) = s.value.number
number_in (told.Read s) = s.value.number

abbrev pub draws_in : Told → List ℕ
draws_in (told.Sealed s) = s.value.draws
draws_in (told.Read s) = s.value.draws
