-- The arcs into a block: states with equal behaviour have them in the same places of their rows.
use Rattle.std.proofs.Common.{◌≡◌, ℕ, ◌<◌, zero, suc, List, [], ◌∷◌, Some, length, get_or, slice_get, refl, sym, ap, ◌∙◌, subst}
use Rattle.std.proofs.lemmas.Option.{slice_get_within, same_Some}
use Rattle.fst_semiring.specs.Cost.{Cost}
use Rattle.fst_machine.specs.Machine.{Arc}
use Rattle.fst_machine.specs.Graph.{Graph, nexts}
use Rattle.fst_machine.specs.BreadthFirst.{Has}
use Rattle.fst_machine.proofs.Arcs.{at_mapped, mapped_at}
use Rattle.fst_machine.proofs.Elements.{at_Has}
use Rattle.fst_minimize.specs.Behaviour.{Alike}
use Rattle.fst_minimize.specs.Dividing.{AreBacks, AreBelow, KeepsAlike, LeadsBy, TakesAlike, Under}
use Rattle.fst_minimize.specs.Numbered.{AreRows, RowsBelow, number_in}
use Rattle.fst_minimize.specs.declared.backs.Keyed.{Keyed}
use Rattle.fst_minimize.proofs.Refining.{Paired, alike_paired}
use Rattle.fst_minimize.proofs.Splitting.{rows_within}

-- beside an arc of a paired list stands one in the same place
paired_at : (R : ℕ → ℕ → Type 0) (xs ys : List (Arc Cost ℕ)) (k : ℕ) (a : Arc Cost ℕ) → Paired R xs ys → slice_get xs k ≡ Some a → (b : Arc Cost ℕ) × (slice_get ys k ≡ Some b) × R a.next b.next
paired_at R [] ys k a p there = absurd cc
paired_at R (x ∷ xs) [] k a p there = absurd p
paired_at R (x ∷ xs) (y ∷ ys) zero a p there = (y, refl, subst (λ (b : Arc Cost ℕ). R b.next y.next) (same_Some x a there) p.1)
paired_at R (x ∷ xs) (y ∷ ys) (suc k) a p there = paired_at R xs ys k a p.2 there

-- The arcs that lead to the members of a block.
module _ (g : Graph ℕ) (rows : List (List ℕ)) (are : AreRows g (length rows) rows) (below : RowsBelow (length rows) rows) (blocks : List ℕ) (keeps : KeepsAlike g (length rows) blocks) where
  -- states with equal behaviour lead to the same blocks
  alike_leads : (p q key e : ℕ) → p < length rows → q < length rows → Alike g g p q → LeadsBy rows p key e → (d : ℕ) × LeadsBy rows q key d × (d < length rows) × (number_in blocks d ≡ number_in blocks e)
  alike_leads p q key e low less alike l =
      let row : l.0 ≡ nexts (g.arcs p) = same_Some l.0 (nexts (g.arcs p)) (sym l.1 ∙ are.row p low) in
      let arc = mapped_at (λ (a : Arc Cost ℕ). a.next) (g.arcs p) key e (ap (λ (r : List ℕ). slice_get r key) (sym row) ∙ l.2) in
      let paired = alike_paired g (length rows) are.single are.goes are.ascend (rows_within g (length rows) rows are below) p q low less alike in
      let other = paired_at (Alike g g) (g.arcs p) (g.arcs q) key arc.0 paired arc.1 in
      let first_low = rows_within g (length rows) rows are below p low key arc.0 arc.1 in
      let second_low = rows_within g (length rows) rows are below q less key other.0 other.1 in
      let same = keeps arc.0.next other.0.next first_low second_low other.2 in
      (other.0.next, (nexts (g.arcs q), are.row q less, at_mapped (λ (a : Arc Cost ℕ). a.next) (g.arcs q) key other.0 other.1), second_low, sym same ∙ ap (number_in blocks) arc.2)

  pub arcs_take : (lists : List (List Keyed)) → AreBacks rows lists → (states : List ℕ) (block : ℕ) (items : List Keyed) → ((q : ℕ) → Has states q → number_in blocks q ≡ block) → ((q : ℕ) → q < length rows → number_in blocks q ≡ block → Has states q)
      → ((key p : ℕ) → Under items key p → (q : ℕ) × Has states q × Under (get_or lists q []) key p) → ((key p q : ℕ) → Has states q → Under (get_or lists q []) key p → Under items key p) → TakesAlike g (length rows) items
  arcs_take lists b states block items in_block all_of only all key p q low less alike under =
      let from = only key p under in
      let to = alike_leads p q key from.0 low less alike (b.only p key from.0 from.2) in
      all key q to.0 (all_of to.0 to.2 (to.3 ∙ in_block from.0 from.1)) (b.all q key to.0 to.1)

-- and they are arcs of states that there are
pub arcs_below : (rows : List (List ℕ)) (lists : List (List Keyed)) → AreBacks rows lists → (states : List ℕ) (items : List Keyed) → ((key p : ℕ) → Under items key p → (q : ℕ) × Has states q × Under (get_or lists q []) key p) → AreBelow (length rows) items
arcs_below rows lists b states items only i item there =
    let from = only item.key item.state (at_Has items i item there) in
    let leads = b.only item.state item.key from.0 from.2 in
    slice_get_within rows item.state leads.0 leads.1
