-- A case of document 01: what the definitions give, and what the document says.
use Rattle.std.specs.Prelude.{◌≡◌, List, [], ◌∷◌}

pub data Case : Type 1 where
  case : {A : Type 0} → A → A → Case

-- every row of a list holds
abbrev pub Hold : List Case → Type 0
Hold [] = Unit {0}
Hold (case given said ∷ rows) = (given ≡ said) × Hold rows
