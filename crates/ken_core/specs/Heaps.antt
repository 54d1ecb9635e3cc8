-- A node's heap, as the code keeps it.
use Rattle.std.specs.Prelude.{◌≡◌, ℕ, List, Option, IfSome, Some, map}
use Rattle.ken_model.specs.declared.values.Value.{Value}
use Rattle.ken_model.specs.Reading.{read_value}
use Rattle.ken_record.specs.declared.page.Page.{Page}
use Rattle.ken_pages.specs.Paged.{page_of}

-- a value that is kept beside the bytes is the one that they stand for
abbrev pub IsValueOf : List ℕ → Option Value → Type 0
IsValueOf bytes kept = IfSome kept (λ v. read_value bytes ≡ Some v)

-- the pages of those numbers as they are in the heap
abbrev pub pages_before : List ℕ → List Page → List Page
pages_before heap pages = map (λ (e : Page). record { page = e.page; bytes = page_of heap e.page }) pages
