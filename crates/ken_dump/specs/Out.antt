-- Files that are out of their filing, between their opening and their putting back.
use Rattle.std.specs.Prelude.{◌≡◌, ◌≢◌, ℕ, List, [], ◌∷◌, true, string_bytes}
use Rattle.std.specs.List.{AllByRecursion}
use Rattle.ken_files.specs.Filing.{FileViews, Filing, IsOpened, KeepsRoom, bytes_of, path_of}
use Rattle.ken_store.specs.declared.disks.Disks.{Disks}
use Rattle.ken_dump.specs.declared.opening.Paths.{Paths}

-- these are the paths of a node's disks
pub record ArePaths (prefix : List ℕ) (node : ℕ) (paths : Paths) : Type 0 where
  pub log : string_bytes paths.log ≡ path_of prefix node 0
  pub image : string_bytes paths.image ≡ path_of prefix node 1
  pub second : string_bytes paths.second ≡ path_of prefix node 2

-- no two of them are the same
pub record AreApart (paths : Paths) : Type 0 where
  pub image : string_bytes paths.image ≢ string_bytes paths.log
  pub second : string_bytes paths.second ≢ string_bytes paths.image
  pub third : string_bytes paths.second ≢ string_bytes paths.log

module _ {F : Type 0} (views : FileViews F) where
  -- files are out, each with its path, and nothing else has changed: each has the bytes that stood under its path, and
  -- there is room to put it back
  pub record AreOut (out : List (List ℕ × F)) (old now : Filing F) : Type 0 where
    pub bytes : views.tells ≡ true → AllByRecursion (λ x. old.bytes x.0 ≡ bytes_of views x.1) out
    pub room : AllByRecursion (λ x. now.room x.0 ≡ true) out
    pub others : views.tells ≡ true → (p : List ℕ) → AllByRecursion (λ x. p ≢ x.0) out → now.bytes p ≡ old.bytes p
    pub rooms : KeepsRoom old now

  -- the files of a node's disks, as they are opened
  pub record AreOpened (disks : Disks F) : Type 0 where
    pub log : IsOpened views disks.log
    pub image : IsOpened views disks.image
    pub second : IsOpened views disks.second

-- each with its path, the last first
abbrev pub files_of : {F : Type 0} → Paths → Disks F → List (List ℕ × F)
files_of paths disks =
    (string_bytes paths.second, disks.second) ∷ (string_bytes paths.image, disks.image)
    ∷ (string_bytes paths.log, disks.log) ∷ []
