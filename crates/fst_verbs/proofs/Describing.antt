-- A text that lines are appended to.
use Rattle.std.proofs.Common.{◌≡◌, ℕ, List, [], ◌∷◌, ◌++◌, sym, ◌∙◌, append_assoc}
use Rattle.std.proofs.lemmas.List.{append-nil}
use Rattle.std.specs.List.{concat}

-- the text to which one line after another was added
abbrev pub followed : List ℕ → List (List ℕ) → List ℕ
followed text [] = text
followed text (line ∷ lines) = followed (text ++ line) lines

pub followed-concat : (text : List ℕ) (lines : List (List ℕ)) → followed text lines ≡ text ++ concat lines
followed-concat text [] = sym (append-nil text)
followed-concat text (line ∷ lines) = followed-concat (text ++ line) lines ∙ append_assoc text line (concat lines)
