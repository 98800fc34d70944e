-- The versions of the text of a graph.
use Rattle.std.specs.Prelude.{ℕ, ◌==◌, ◌&&◌, ◌||◌, not, Bool, true, codes, Option, None, Some, Result, Ok, Err, if◌then◌else◌}
use Rattle.tg_names.specs.declared.right_sets.Right.TheVariants.{A, D}
use Rattle.tg_names.specs.declared.right_sets.Rights.{Rights}
use Rattle.tg_names.specs.Sets.{is_empty_set, member}
use Rattle.tg_graph.specs.Limits.{most_vertices}
use Rattle.tg_words.specs.declared.faults.TextKind.{TextKind}
use Rattle.tg_words.specs.declared.faults.TextKind.TheVariants.{BadRights}
use Rattle.tg_words.specs.declared.versions.Version.{Version}
use Rattle.tg_words.specs.declared.versions.Version.TheVariants.{One, Two}
use Rattle.tg_words.specs.Limits.{most_vertices_of_one}
use Rattle.tg_words.specs.Reading.{◌>>=◌}
use Rattle.tg_words.specs.Words.{Word, rights_at}

-- the number of the last version
abbrev pub last_version : ℕ
last_version = 2

-- the version with this number
abbrev pub version_numbered : ℕ → Version
version_numbered n = if n == 1 then One else Two

-- the number of the version as a word
abbrev pub version_word : Version → Word
version_word One = codes "1"
version_word Two = codes "2"

-- the version of a text that begins with this one; a text that names none has version 1
abbrev pub version_of : Option Version → Version
version_of None = One
version_of (Some version) = version

-- how many vertices a text of the version may have
abbrev pub limit_of : Version → ℕ
limit_of One = most_vertices_of_one
limit_of Two = most_vertices

-- whether the version has a letter for each right of the set: version 1 has none for a and d
abbrev pub has_letters : Version → Rights → Bool
has_letters One s = not (member s A) && not (member s D)
has_letters Two s = true

-- a label writes a set that is not empty, in letters of the version
abbrev pub edge_rights_at : Version → Word → Result Rights TextKind
edge_rights_at version word = do
  s ← rights_at word
  if is_empty_set s || not (has_letters version s) then Err BadRights else Ok s
