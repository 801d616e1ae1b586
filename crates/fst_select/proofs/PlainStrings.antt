-- A string of an acceptor without epsilon is the label word of its paths.
use Rattle.std.proofs.Common.{◌≡◌, ◌↔◌, ℕ, suc, List, [], ◌∷◌, sym, refl, ap, ap₂, ◌∙◌}
use Rattle.fst_semiring.specs.Cost.{Cost}
use Rattle.fst_semiring.specs.declared.arc_type.ArcType.{ArcType}
use Rattle.fst_machine.specs.Graph.{Graph}
use Rattle.fst_machine.specs.Letters.{before, input, label_word, output}
use Rattle.fst_machine.specs.Paths.{IsPath, Transition, letters}
use Rattle.fst_machine.specs.Relation.{IsWeight, Rel}
use Rattle.fst_trim.specs.WordWeights.{WordWeighs}
use Rattle.fst_select.specs.Strings.{IsPlain, IsSpelled}

module _ {N : Type 0} (kind : ArcType) (g : Graph N) (plain : IsPlain g) where
  -- a label that is not epsilon stands before what follows
  put : (n : ℕ) (xs ys : List ℕ) → (l : ℕ) × (n ≡ suc l) → xs ≡ ys → before n xs ≡ n ∷ ys
  put n xs ys (l, is) e = ap₂ before is e ∙ ap (λ (k : ℕ). k ∷ ys) (sym is)

  path_strings : (path : List (Transition N)) (p q : N) → IsPath g p path q → (input (letters path) ≡ label_word (letters path)) × (output (letters path) ≡ label_word (letters path))
  path_strings [] p q leads = (refl, refl)
  path_strings (t ∷ path) p q leads =
      let rest = path_strings path t.arc.next q leads.1 in
      let label = plain.1 p t.place t.arc leads.0.1 in
      let same : before t.arc.olabel (output (letters path)) ≡ before t.arc.ilabel (output (letters path))
      = ap (λ (n : ℕ). before n (output (letters path))) (sym (plain.0 p t.place t.arc leads.0.1)) in
      (put t.arc.ilabel _ _ label rest.0, same ∙ put t.arc.ilabel _ _ label rest.1)

  spelled : (x : List ℕ) (w : Cost) → Rel kind g x x w → WordWeighs kind g x w
  spelled x w r =
      let s = r.says in
      record {
        first = r.first;
        starts = r.starts;
        weighs = record { path = s.path; last = s.last; leads = s.leads; final = s.final; word = s.reads ∙ (path_strings s.path r.first s.last s.leads).0; weight = s.weight };
      }

  related : (x : List ℕ) (w : Cost) → WordWeighs kind g x w → Rel kind g x x w
  related x w h =
      let c = h.weighs in
      let same = path_strings c.path h.first c.last c.leads in
      record {
        first = h.first;
        starts = h.starts;
        says = record { path = c.path; last = c.last; leads = c.leads; final = c.final; reads = c.word ∙ sym same.0; writes = c.word ∙ sym same.1; weight = c.weight };
      }

  pub plain_strings : (x : List ℕ) (w : Cost) → IsWeight kind g x x w ↔ IsSpelled kind g x w
  plain_strings x w = (
    (λ h. (spelled x w h.reached, λ v s. h.least v (related x v s))),
    (λ h. record { reached = related x w h.0; least = λ v r. h.1 v (spelled x v r) }),
  )
