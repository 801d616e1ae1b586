-- A stable tie is one of equal behaviour, and where arcs of a name have different labels and lead to names that go on,
-- equal behaviour is stable.
use Rattle.std.proofs.Common.{◌≡◌, ◌⊎◌, inl, inr, ◌↔◌, ℕ, List, [], ◌∷◌, Some, slice_get, sym, refl, ap, ap₂, ◌∙◌, subst}
use Rattle.fst_semiring.specs.Cost.{Cost, infinite}
use Rattle.fst_semiring.specs.declared.arc_type.ArcType.{ArcType}
use Rattle.fst_semiring.specs.Semiring.{times}
use Rattle.fst_machine.specs.Machine.{Arc}
use Rattle.fst_machine.specs.Graph.{Graph}
use Rattle.fst_machine.specs.Letters.{Letter, letter_of, input, output, product}
use Rattle.fst_machine.specs.Paths.{Transition, IsPath, letters}
use Rattle.fst_machine.specs.Relation.{RelFrom}
use Rattle.fst_distance.proofs.Potential.{zero_or_not}
use Rattle.fst_trim.specs.WordWeights.{IsSingle}
use Rattle.fst_minimize.specs.Behaviour.{Behaves, Alike, GoesOn, Follows, IsStable}
use Rattle.fst_minimize.specs.Laws.{StableLaw, BehaviourLaws}

-- what each arc of a tied name has beside it, each path has
module _ {N M : Type 0} (g : Graph N) (h : Graph M) (R : N → M → Type 0)
    (there : (p : N) (q : M) (k : ℕ) (a : Arc Cost N) → R p q → slice_get (g.arcs p) k ≡ Some a → Follows R a (h.arcs q)) where
  pub followed : (p last : N) (q : M) (path : List (Transition N)) → R p q → IsPath g p path last → (other : List (Transition M)) × (end : M) × IsPath h q other end × (letters path ≡ letters other) × R last end
  followed p last q [] tied here = ([], q, refl, refl, subst (λ z. R z q) here tied)
  followed p last q (t ∷ path) tied leads =
      let f = there p q t.place t.arc tied leads.0.1 in
      let rest = followed t.arc.next last f.arc.next path f.tied leads.1 in
      let u : Transition M = record { state = q; place = f.place; arc = f.arc } in
      (u ∷ rest.0, rest.1, ((refl, f.has), rest.2), ap₂ (◌∷◌) f.same rest.3, rest.4)

  pub followed_Behaves : ((p : N) (q : M) → R p q → g.final p ≡ h.final q) → (p : N) (q : M) (ls : List Letter) (w : Cost) → R p q → Behaves g p ls w → Behaves h q ls w
  followed_Behaves final p q ls w tied b =
      let o = followed p b.last q b.path tied b.leads in
      let same : g.final b.last ≡ h.final o.1 = final b.last o.1 o.4 in
      record { path = o.0; last = o.1; leads = o.2; final = (λ e. b.final (same ∙ e)); spells = b.spells ∙ o.3; ends = b.ends ∙ same }

-- a stable tie is one of equal behaviour
pub stable_alike : {N M : Type 0} (g : Graph N) (h : Graph M) (R : N → M → Type 0) → IsStable g h R → (p : N) (q : M) → R p q → Alike g h p q
stable_alike {N} {M} g h R s p q tied ls w =
    let there = followed_Behaves g h R s.there s.final p q ls w tied in
    let back = followed_Behaves h g (λ m n. R n m) (λ m n k b t e. s.back n m k b t e) (λ m n t. sym (s.final n m t)) q p ls w tied in
    (there, back)

-- what a name does begins with an arc and goes on with what its end does
pub record BeginsWith {N : Type 0} (g : Graph N) (p : N) (l : Letter) (ls : List Letter) (w : Cost) : Type 0 where
  pub place : ℕ
  pub arc : Arc Cost N
  pub has : slice_get (g.arcs p) place ≡ Some arc
  pub same : l ≡ letter_of arc
  pub rest : Behaves g arc.next ls w

pub begins_with : {N : Type 0} (g : Graph N) (p : N) (l : Letter) (ls : List Letter) (w : Cost) → Behaves g p (l ∷ ls) w → BeginsWith g p l ls w
begins_with {N} g p l ls w b = by_path b.path b.leads b.spells
  where
    by_path : (path : List (Transition N)) → IsPath g p path b.last → l ∷ ls ≡ letters path → BeginsWith g p l ls w
    by_path [] leads e = absurd (cc)
    by_path (t ∷ path) leads e =
        let head : l ≡ letter_of t.arc = cc in
        let tail : ls ≡ letters path = cc in
        record { place = t.place; arc = t.arc; has = leads.0.1; same = head; rest = record { path = path; last = b.last; leads = leads.1; final = b.final; spells = tail; ends = b.ends } }

-- an arc goes before what its end does
pub goes_before : {N : Type 0} (g : Graph N) (p : N) (k : ℕ) (a : Arc Cost N) (ls : List Letter) (w : Cost) → slice_get (g.arcs p) k ≡ Some a → Behaves g a.next ls w → Behaves g p (letter_of a ∷ ls) w
goes_before {N} g p k a ls w has b =
    let t : Transition N = record { state = p; place = k; arc = a } in
    record { path = t ∷ b.path; last = b.last; leads = ((refl, has), b.leads); final = b.final; spells = ap (λ z. letter_of a ∷ z) b.spells; ends = b.ends }

-- a name that does nothing more ends there
pub ends_here : {N : Type 0} (g : Graph N) (p : N) (w : Cost) → Behaves g p [] w → w ≡ g.final p
ends_here {N} g p w b = by_path b.path b.leads b.spells
  where
    by_path : (path : List (Transition N)) → IsPath g p path b.last → ◌≡◌ {A = List Letter} [] (letters path) → w ≡ g.final p
    by_path [] here e = b.ends ∙ ap g.final (sym here)
    by_path (t ∷ path) leads e = absurd (cc)

-- names with equal behaviour have the same final weight
pub alike_final : {N M : Type 0} (g : Graph N) (h : Graph M) (p : N) (q : M) → Alike g h p q → g.final p ≡ h.final q
alike_final g h p q alike = by_zero (zero_or_not (g.final p)) (zero_or_not (h.final q))
  where
    by_zero : (g.final p ≡ infinite) ⊎ (g.final p ≡ infinite → ⊥) → (h.final q ≡ infinite) ⊎ (h.final q ≡ infinite → ⊥) → g.final p ≡ h.final q
    by_zero (inr some) other = ends_here h q (g.final p) ((alike [] (g.final p)).0 (record { path = []; last = p; leads = refl; final = some; spells = refl; ends = refl }))
    by_zero (inl none) (inr some) = sym (ends_here g p (h.final q) ((alike [] (h.final q)).1 (record { path = []; last = q; leads = refl; final = some; spells = refl; ends = refl })))
    by_zero (inl none) (inl nor) = none ∙ sym nor

-- each arc has one beside it
pub alike_there : {N M : Type 0} (g : Graph N) (h : Graph M) → IsSingle g → IsSingle h → GoesOn g → (p : N) (q : M) (k : ℕ) (a : Arc Cost N) → Alike g h p q → slice_get (g.arcs p) k ≡ Some a → Follows (Alike g h) a (h.arcs q)
alike_there {N} {M} g h one two goes p q k a alike has =
    let on = goes p k a has in
    let first = goes_before g p k a (letters on.path) (g.final on.last) has (record { path = on.path; last = on.last; leads = on.leads; final = on.final; spells = refl; ends = refl }) in
    let b = begins_with h q (letter_of a) (letters on.path) (g.final on.last) ((alike (letter_of a ∷ letters on.path) (g.final on.last)).0 first) in
    record { place = b.place; arc = b.arc; has = b.has; same = b.same; tied = (λ ls w. (forth b.place b.arc b.has b.same ls w, back b.place b.arc b.has b.same ls w)) }
  where
    forth : (j : ℕ) (b : Arc Cost M) → slice_get (h.arcs q) j ≡ Some b → letter_of a ≡ letter_of b → (ls : List Letter) (w : Cost) → Behaves g a.next ls w → Behaves h b.next ls w
    forth j b there same ls w x =
        let o = begins_with h q (letter_of a) ls w ((alike (letter_of a ∷ ls) w).0 (goes_before g p k a ls w has x)) in
        let label : o.arc.ilabel ≡ b.ilabel = ap (λ (l : Letter). l.ilabel) (sym o.same ∙ same) in
        subst (λ (c : Arc Cost M). Behaves h c.next ls w) (two q o.place j o.arc b o.has there label) o.rest

    back : (j : ℕ) (b : Arc Cost M) → slice_get (h.arcs q) j ≡ Some b → letter_of a ≡ letter_of b → (ls : List Letter) (w : Cost) → Behaves h b.next ls w → Behaves g a.next ls w
    back j b there same ls w x =
        let y = subst (λ (l : Letter). Behaves h q (l ∷ ls) w) (sym same) (goes_before h q j b ls w there x) in
        let o = begins_with g p (letter_of a) ls w ((alike (letter_of a ∷ ls) w).1 y) in
        let label : o.arc.ilabel ≡ a.ilabel = ap (λ (l : Letter). l.ilabel) (sym o.same) in
        subst (λ (c : Arc Cost N). Behaves g c.next ls w) (one p o.place k o.arc a o.has has label) o.rest

-- equal behaviour the other way round
pub alike_sym : {N M : Type 0} (g : Graph N) (h : Graph M) (p : N) (q : M) → Alike g h p q → Alike h g q p
alike_sym g h p q alike ls w = ((alike ls w).1, (alike ls w).0)

-- an arc beside another, seen from the other graph
follows_sym : {N M : Type 0} (g : Graph N) (h : Graph M) (b : Arc Cost M) (arcs : List (Arc Cost N)) → Follows (Alike h g) b arcs → Follows (λ m n. Alike g h n m) b arcs
follows_sym g h b arcs f = record { place = f.place; arc = f.arc; has = f.has; same = f.same; tied = alike_sym h g b.next f.arc.next f.tied }

-- equal behaviour is stable
pub alike_stable : {N M : Type 0} (g : Graph N) (h : Graph M) → IsSingle g → IsSingle h → GoesOn g → GoesOn h → IsStable g h (Alike g h)
alike_stable g h one two goes on = record {
  final = alike_final g h;
  there = alike_there g h one two goes;
  back = (λ p q k b alike has. follows_sym g h b (g.arcs p) (alike_there h g two one on q p k b (alike_sym g h p q alike) has));
}

alike_RelFrom : {N M : Type 0} (kind : ArcType) (g : Graph N) (h : Graph M) (p : N) (q : M) → Alike g h p q → (x y : List ℕ) (w : Cost) → RelFrom kind g p x y w → RelFrom kind h q x y w
alike_RelFrom kind g h p q alike x y w r =
    let b = (alike (letters r.path) (g.final r.last)).0 (record { path = r.path; last = r.last; leads = r.leads; final = r.final; spells = refl; ends = refl }) in
    record {
      path = b.path;
      last = b.last;
      leads = b.leads;
      final = b.final;
      reads = r.reads ∙ ap input b.spells;
      writes = r.writes ∙ ap output b.spells;
      weight = r.weight ∙ ap₂ (times kind) (ap (product kind) b.spells) b.ends;
    }

-- names with equal behaviour relate the same
pub alike_says : {N M : Type 0} (kind : ArcType) (g : Graph N) (h : Graph M) (p : N) (q : M) → Alike g h p q → (x y : List ℕ) (w : Cost) → RelFrom kind g p x y w ↔ RelFrom kind h q x y w
alike_says kind g h p q alike x y w = (alike_RelFrom kind g h p q alike x y w, alike_RelFrom kind h g q p (alike_sym g h p q alike) x y w)

-- the laws
pub stable_law : {N M : Type 0} (g : Graph N) (h : Graph M) (R : N → M → Type 0) → StableLaw g h R
stable_law g h R s p q tied = stable_alike g h R s p q tied

pub behaviour_laws : {N M : Type 0} (kind : ArcType) (g : Graph N) (h : Graph M) → BehaviourLaws kind g h
behaviour_laws kind g h = record { stable = alike_stable g h; says = alike_says kind g h }
