-- The words that a command line may have.
use Rattle.std.specs.Prelude.{ℕ, ◌≡◌, List, [], ◌∷◌, ◌++◌, codes}

-- the name ends with the ending of catalogues
abbrev pub IsJsonName : List ℕ → Type 0
IsJsonName name = (front : List ℕ) × (name ≡ front ++ codes ".json")

-- what is asked for: a script played over rows, the rows of a catalogue, the contents of a bundle file, or the bundles of a
-- project
pub data Command : Type 0 where
  simulate : List ℕ → List ℕ → Command
  list_rows : List ℕ → Command
  inspect : List ℕ → Command
  plan : List ℕ → Command

-- how it is asked for: the command's word, and the names of its files or its folder
abbrev pub words_of : Command → List (List ℕ)
words_of (simulate rows script) = codes "simulate" ∷ rows ∷ script ∷ []
words_of (list_rows file) = codes "rows" ∷ file ∷ []
words_of (inspect file) = codes "inspect" ∷ file ∷ []
words_of (plan folder) = codes "plan" ∷ folder ∷ []

-- the words ask for the command
abbrev pub AsksFor : List (List ℕ) → Command → Type 0
AsksFor words c = words ≡ words_of c

-- the words of some command
abbrev pub IsCommandLine : List (List ℕ) → Type 0
IsCommandLine words = (c : Command) × AsksFor words c
