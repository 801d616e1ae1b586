-- Paths turned round.
use Rattle.std.proofs.Common.{◌≡◌, List, [], ◌∷◌, ◌++◌, reverse, sym, refl, ap, ap₂, ◌∙◌, subst}
use Rattle.std.proofs.lemmas.List.{reverse-append}
use Rattle.fst_machine.specs.Graph.{Graph}
use Rattle.fst_machine.specs.Letters.{Letter, letter_of}
use Rattle.fst_machine.specs.Paths.{Transition, IsPath, letters}
use Rattle.fst_machine.specs.Turning.{Turns}
use Rattle.fst_machine.proofs.Letters.{letters-append}
use Rattle.fst_machine.proofs.PathParts.{IsPath-append}

-- where arcs lead back, a path has one back, from any name tied to its end to one tied to its beginning,
-- with its letters turned round
pub turned_path : {N M : Type 0} (R : N → M → Type 0) (g : Graph N) (h : Graph M) (D : N → Type 0) → Turns R g h D → (p q : N) (m : M) (path : List (Transition N)) → D p → R q m → IsPath g p path q → (back : List (Transition M)) × (end : M) × IsPath h m back end × (letters back ≡ reverse (letters path)) × R p end
turned_path R g h D s p q m [] within tied here = ([], m, refl, refl, subst (λ z. R z m) (sym here) tied)
turned_path {N} {M} R g h D s p q m (t ∷ path) within tied leads =
    let rest = turned_path R g h D s t.arc.next q m path (s.within p t.place t.arc within leads.0.1) tied leads.1 in
    let b = s.arcs p rest.1 t.place t.arc within leads.0.1 rest.4 in
    let u : Transition M = record { state = rest.1; place = b.0; arc = b.1 } in
    let last : ◌≡◌ {A = List Letter} (letter_of b.1 ∷ []) (letter_of t.arc ∷ []) = ap (λ l. l ∷ []) b.3 in
    (rest.0 ++ u ∷ [], b.1.next, IsPath-append h rest.0 (u ∷ []) m rest.1 b.1.next rest.2 ((refl, b.2), refl), letters-append rest.0 (u ∷ []) ∙ (ap₂ (◌++◌) rest.3 last ∙ sym (reverse-append (letter_of t.arc ∷ []) (letters path))), b.4)
