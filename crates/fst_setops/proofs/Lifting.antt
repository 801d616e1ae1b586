-- The paths of a difference are those of the first machine, each with what it reads in the second.
use Rattle.std.proofs.Common.{◌≡◌, ◌≢◌, ℕ, true, false, List, [], ◌∷◌, Option, None, Some, cond, map, refl, sym, ap, ap₂, ◌∙◌, subst}
use Rattle.std.specs.Option.{option_map}
use Rattle.std.proofs.lemmas.Option.{same_Some}
use Rattle.fst_semiring.specs.Cost.{Cost, best, finite, infinite, is_infinite}
use Rattle.fst_semiring.specs.declared.arc_type.ArcType.{ArcType}
use Rattle.fst_semiring.specs.Semiring.{times}
use Rattle.fst_machine.specs.Machine.{Arc}
use Rattle.fst_machine.specs.Graph.{Graph}
use Rattle.fst_machine.specs.Letters.{input, letter_of, product}
use Rattle.fst_machine.specs.Paths.{Transition, Leaves, IsPath, letters}
use Rattle.fst_machine.specs.Relation.{IsSuccessful}
use Rattle.fst_machine.proofs.Arcs.{at_mapped, mapped_at}
use Rattle.fst_machine.proofs.PathParts.{same_path}
use Rattle.fst_trim.specs.OneToOne.{Tied}
use Rattle.fst_trim.specs.WordWeights.{IsSingle}
use Rattle.fst_setops.specs.Difference.{Rest, difference, followed, is_final, rest_arc, IsEpsilonFree}
use Rattle.fst_setops.specs.Subtracting.{FirstParts, HasString, Subtracts}
use Rattle.fst_setops.proofs.Second.{after, along_path, none_stays, path_along, same_string}

-- paths that are tied with the same places
pub tied_places : {X Y : Type 0} (R : X → Y → Type 0) (path : List (Transition X)) (other : List (Transition Y)) → Tied R (λ n p k j. k ≡ j) path other → ◌≡◌ {A = List ℕ} (map (λ t. t.place) path) (map (λ t. t.place) other)
tied_places R [] [] r = refl
tied_places R [] (u ∷ other) r = absurd r
tied_places R (t ∷ path) [] r = absurd r
tied_places R (t ∷ path) (u ∷ other) r = ap₂ (◌∷◌) r.1 (tied_places R path other r.2)

-- two successful paths by the same places are the same
pub same_successful : {P : Type 0} (kind : ArcType) (g : Graph P) (one other : List (Transition P)) (v w : Cost) → IsSuccessful kind g one v → IsSuccessful kind g other w → ◌≡◌ {A = List ℕ} (map (λ t. t.place) one) (map (λ t. t.place) other) → one ≡ other
same_successful kind g one other v w s t same =
    let first = same_Some t.first s.first (sym t.starts ∙ s.starts) in
    let leads : IsPath g s.first other t.last = subst (λ i. IsPath g i other t.last) first t.leads in
    (same_path g one other s.first s.last t.last s.leads leads same).0

module _ {N M : Type 0} (a : Graph N) (b : Graph M) where
  abbrev name : N → Option M → Rest N M
  name p s = record { first = p; second = s }

  abbrev lifted_step : Option M → Transition N → Transition (Rest N M)
  lifted_step s t = record { state = name t.state s; place = t.place; arc = rest_arc b s t.arc }

  -- a path of the first machine, with what it reads in the second
  abbrev lifted : Option M → List (Transition N) → List (Transition (Rest N M))
  lifted s [] = []
  lifted s (t ∷ path) = lifted_step s t ∷ lifted (followed b t.arc.ilabel s) path

  lifted_path : (path : List (Transition N)) (s : Option M) (p q : N) → IsPath a p path q → IsPath (difference a b) (name p s) (lifted s path) (name q (after b s (letters path)))
  lifted_path [] s p q here = ap (λ z. name z s) here
  lifted_path (t ∷ path) s p q leads =
      let leaves : Leaves (difference a b) (name p s) (lifted_step s t) = (ap (λ z. name z s) leads.0.0, at_mapped (rest_arc b s) (a.arcs p) t.place t.arc leads.0.1) in
      (leaves, lifted_path path (followed b t.arc.ilabel s) t.arc.next q leads.1)

  lifted_letters : (path : List (Transition N)) (s : Option M) → letters (lifted s path) ≡ letters path
  lifted_letters [] s = refl
  lifted_letters (t ∷ path) s = ap (λ ls. letter_of t.arc ∷ ls) (lifted_letters path (followed b t.arc.ilabel s))

  lifted_parts : (path : List (Transition N)) (s : Option M) → FirstParts (lifted s path) path
  lifted_parts [] s = tt
  lifted_parts (t ∷ path) s = (refl, refl, lifted_parts path (followed b t.arc.ilabel s))

  -- the path of the first machine that a path of the difference is read off to
  record Dropped (n m : Rest N M) (path : List (Transition (Rest N M))) : Type 0 where
    other : List (Transition N)
    leads : IsPath a n.first other m.first
    second : m.second ≡ after b n.second (letters other)
    parts : FirstParts path other
    same : letters other ≡ letters path

  dropped : (path : List (Transition (Rest N M))) (n m : Rest N M) → IsPath (difference a b) n path m → Dropped n m path
  dropped [] n m here = record { other = []; leads = ap (λ (z : Rest N M). z.first) here; second = sym (ap (λ (z : Rest N M). z.second) here); parts = tt; same = refl }
  dropped (t ∷ path) n m leads =
      let from = mapped_at (rest_arc b n.second) (a.arcs n.first) t.place t.arc leads.0.1 in
      let next : Rest N M = name from.0.next (followed b from.0.ilabel n.second) in
      let rest = dropped path next m (subst (λ (c : Arc Cost (Rest N M)). IsPath (difference a b) c.next path m) (sym from.2) leads.1) in
      let u : Transition N = record { state = n.first; place = t.place; arc = from.0 } in
      record {
        other = u ∷ rest.other;
        leads = ((refl, from.1), rest.leads);
        second = rest.second;
        parts = (ap (λ (z : Rest N M). z.first) leads.0.0, refl, rest.parts);
        same = ap₂ (◌∷◌) (ap letter_of from.2) rest.same;
      }

  module _ (kind : ArcType) (single : IsSingle b) (free : IsEpsilonFree b) where
    -- where the second part is final, the string is one of the second machine, and the other way round
    final_string : (p : N) (other : List (Transition N)) (q : M) → after b b.start (letters other) ≡ Some q → b.final q ≢ infinite → HasString kind b (input (letters other))
    final_string p other q e final = by_start b.start refl
      where
        by_start : (s : Option M) → b.start ≡ s → HasString kind b (input (letters other))
        by_start None at = absurd (let f : None ≡ Some q = sym (none_stays b (letters other)) ∙ (ap (λ s. after b s (letters other)) (sym at) ∙ e) in cc)
        by_start (Some m) at =
            let path = path_along b (letters other) m q (ap (λ s. after b s (letters other)) (sym at) ∙ e) in
            record {
              path = path.0;
              weight = times kind (product kind (letters path.0)) (b.final q);
              succeeds = record { first = m; last = q; starts = at; leads = path.1; final = final; weight = refl };
              reads = sym path.2;
            }

    string_final : (other : List (Transition N)) → HasString kind b (input (letters other)) → (q : M) × (after b b.start (letters other) ≡ Some q) × (b.final q ≢ infinite)
    string_final other h =
        let s = h.succeeds in
        let along = along_path b single free h.path s.first s.last s.leads in
        let same = same_string b (Some s.first) (letters other) (letters h.path) h.reads in
        (s.last, ap (λ o. after b o (letters other)) s.starts ∙ (same ∙ along), s.final)

    -- what the final weight of a name says
    keeps_final : (w : Cost) (s : Option M) → cond (is_final b s) infinite w ≢ infinite → (cond (is_final b s) infinite w ≡ w) × ((q : M) → s ≡ Some q → b.final q ≢ infinite → ⊥)
    keeps_final w None some = (refl, (λ q e final. absurd (cc)))
    keeps_final w (Some m) some = by_final (b.final m) refl
      where
        by_final : (v : Cost) → b.final m ≡ v → (cond (is_final b (Some m)) infinite w ≡ w) × ((q : M) → Some m ≡ Some q → b.final q ≢ infinite → ⊥)
        by_final infinite at = (ap (λ z. cond (cond (is_infinite z) false true) infinite w) at, (λ q e final. final (ap b.final (sym (same_Some m q e)) ∙ at)))
        by_final best at = absurd (some (ap (λ z. cond (cond (is_infinite z) false true) infinite w) at))
        by_final (finite x y) at = absurd (some (ap (λ z. cond (cond (is_infinite z) false true) infinite w) at))

    not_final : (w : Cost) (s : Option M) → ((q : M) → s ≡ Some q → b.final q ≢ infinite → ⊥) → cond (is_final b s) infinite w ≡ w
    not_final w None none = refl
    not_final w (Some m) none = by_final (b.final m) refl
      where
        by_final : (v : Cost) → b.final m ≡ v → cond (is_final b (Some m)) infinite w ≡ w
        by_final infinite at = ap (λ z. cond (cond (is_infinite z) false true) infinite w) at
        by_final best at = absurd (none m refl (λ e. let f : best ≡ infinite = sym at ∙ e in cc))
        by_final (finite x y) at = absurd (none m refl (λ e. let f : finite x y ≡ infinite = sym at ∙ e in cc))

    start_part : (n : Rest N M) → (difference a b).start ≡ Some n → (p : N) × (a.start ≡ Some p) × (name p b.start ≡ n)
    start_part n e = by_start a.start refl e
      where
        by_start : (o : Option N) → a.start ≡ o → option_map (λ (p : N). name p b.start) o ≡ Some n → (p : N) × (a.start ≡ Some p) × (name p b.start ≡ n)
        by_start None at e = absurd (cc)
        by_start (Some p) at e = (p, at, same_Some (name p b.start) n e)

    there : (path : List (Transition (Rest N M))) (w : Cost) → IsSuccessful kind (difference a b) path w
        → (other : List (Transition N)) × IsSuccessful kind a other w × FirstParts path other × (letters other ≡ letters path) × (HasString kind b (input (letters other)) → ⊥)
    there path w s =
        let start = start_part s.first s.starts in
        let d = dropped path s.first s.last s.leads in
        let kept = keeps_final (a.final s.last.first) s.last.second s.final in
        let leads : IsPath a start.0 d.other s.last.first = subst (λ (z : Rest N M). IsPath a z.first d.other s.last.first) (sym start.2) d.leads in
        let second : s.last.second ≡ after b b.start (letters d.other) = d.second ∙ ap (λ (z : Rest N M). after b z.second (letters d.other)) (sym start.2) in (
          d.other,
          record {
            first = start.0;
            last = s.last.first;
            starts = start.1;
            leads = leads;
            final = (λ e. s.final (kept.0 ∙ e));
            weight = s.weight ∙ ap₂ (λ ls v. times kind (product kind ls) v) (sym d.same) kept.0;
          },
          d.parts,
          d.same,
          (λ h. let f = string_final d.other h in kept.1 f.0 (second ∙ f.1) f.2),
        )

    back : (other : List (Transition N)) (w : Cost) → IsSuccessful kind a other w → (HasString kind b (input (letters other)) → ⊥)
        → (path : List (Transition (Rest N M))) × IsSuccessful kind (difference a b) path w × FirstParts path other × (letters other ≡ letters path)
    back other w s none =
        let end = name s.last (after b b.start (letters other)) in
        let final : (difference a b).final end ≡ a.final s.last = not_final (a.final s.last) end.second (λ q e final. none (final_string s.last other q e final)) in (
          lifted b.start other,
          record {
            first = name s.first b.start;
            last = end;
            starts = ap (option_map (λ (p : N). name p b.start)) s.starts;
            leads = lifted_path other b.start s.first s.last s.leads;
            final = (λ e. s.final (sym final ∙ e));
            weight = s.weight ∙ ap₂ (λ ls v. times kind (product kind ls) v) (sym (lifted_letters other b.start)) (sym final);
          },
          lifted_parts other b.start,
          sym (lifted_letters other b.start),
        )

    -- the difference has the successful paths of the first machine whose string is no string of the second
    pub subtracts : Subtracts kind a b (difference a b) FirstParts
    subtracts = record {
      there = there;
      back = back;
      once = λ path one other r q v w s t. same_successful kind a one other v w s t (sym (tied_places (λ n p. n.first ≡ p) path one r) ∙ tied_places (λ n p. n.first ≡ p) path other q);
      only = λ one other path r q v w s t. same_successful kind (difference a b) one other v w s t (tied_places (λ n p. n.first ≡ p) one path r ∙ sym (tied_places (λ n p. n.first ≡ p) other path q));
    }
