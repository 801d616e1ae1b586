-- The passes and caches of workers are joined, one after the other.
use Rattle.std.proofs.Common.{◌≡◌, ⊎_elim, ℕ, ◌+◌, ◌<◌, true, List, [], ◌∷◌, ◌++◌, Some, length, take, set, get_or, slice_get, sym, ap, ◌∙◌, subst, append_assoc, append-nil, arith}
use Rattle.std.specs.List.{Contains}
use Rattle.std.proofs.lemmas.Bool.{cases_eq}
use Rattle.std.proofs.lemmas.List.{flat_map_more, map-append, take_all, take_more}
use Rattle.std.proofs.lemmas.List.Elements.{Contains-append_left, Contains-append_right}
use Rattle.std.proofs.lemmas.Option.{get_or_from_slice_get, slice_get-get_or, slice_get_within}
use Rattle.fst_machine.specs.BreadthFirst.{Has}
use Rattle.fst_machine.specs.Machine.{Arc}
use Rattle.fst_machine.proofs.Elements.{Has-append_cases}
use Rattle.fst_claims.specs.declared.table.Claims.{Claims}
use Rattle.fst_claims.specs.declared.table.Pass.{Pass}
use Rattle.fst_claims.specs.Passes.{IsPassOf, found, parts, won}
use Rattle.fst_delayed.specs.Caches.{Entries, keys}
use Rattle.fst_delayed.specs.Coding.{code_of}
use Rattle.fst_delayed.specs.Handed.{Name}
use Rattle.fst_lattice.specs.Phases.{AreGathered, IsDue, IsEmptied, IsTakenIn, Laborer, Learned, all_own}
use Rattle.fst_lattice.specs.Serving.{codes}
use Rattle.fst_lattice.proofs.Joining.{code_there}
use Rattle.fst_lattice.proofs.Turns.{InTurn, turn_begins, turn_ends, turn_goes}

module _ {V M : Type 0} (t : Claims) (before : Pass) (old : Entries V (Name ℕ ℕ)) (vs : List (Laborer V M)) where
  -- so many of the workers were taken in
  pub record AreGathering (pass : Pass) (cache : Entries V (Name ℕ ℕ)) (now : List (Laborer V M)) (i : ℕ) : Type 0 where
    pub of : IsPassOf t pass
    pub entries : cache ≡ old ++ all_own (take i vs)
    pub won_codes : won pass ≡ codes (all_own (take i vs))
    pub sum : parts pass ≡ parts before + i
    pub learned : 0 < i → Learned t pass
    pub finds : (k : ℕ) (v : Laborer V M) (seat : Pass) → k < i → slice_get vs k ≡ Some v → v.pass ≡ Some seat → (x : ℕ × ℕ) → Contains (found seat) x → Contains (found pass) x
    pub turn : InTurn IsEmptied vs now i
    pub served : (k : ℕ) (v : Laborer V M) → k < i → slice_get vs k ≡ Some v → v.served ≡ true

  pub gathering_begins : IsPassOf t before → won before ≡ [] → AreGathering before old vs 0
  gathering_begins of none = record {
    of = of;
    entries = sym (append-nil old);
    won_codes = none;
    sum = omega arith;
    learned = λ low. absurd (omega (arith, low));
    finds = λ k v seat low. absurd (omega (arith, low));
    turn = turn_begins IsEmptied vs;
    served = λ k v low. absurd (omega (arith, low));
  }

  module _ (pass after : Pass) (cache new : Entries V (Name ℕ ℕ)) (now : List (Laborer V M)) (i : ℕ) (d w : Laborer V M) (h : AreGathering pass cache now i) (low : i < length now) (here : (get_or now i d).served ≡ true) where
    at : slice_get vs i ≡ Some (get_or now i d)
    at = sym (h.turn.rest i (omega arith)) ∙ slice_get-get_or now i d low

    -- the names of the cache that this worker has too, were won before
    pub known : IsDue t old (get_or now i d) → (n : Name ℕ ℕ) → Has (keys cache) n → Has (keys (get_or now i d).own) n → Contains (won pass) (code_of n)
    known due n k mine = ⊎_elim
        (λ (o : Has (keys old) n). absurd (due.apart n o mine))
        (λ (a : Has (keys (all_own (take i vs))) n). subst (λ (cs : List ℕ). Contains cs (code_of n)) (sym h.won_codes) (code_there (all_own (take i vs)) n a))
        (Has-append_cases (keys old) (keys (all_own (take i vs))) n (subst (λ ns. Has ns n) (ap keys h.entries ∙ map-append (λ (e : Name ℕ ℕ × List (Arc V (Name ℕ ℕ))). e.0) old (all_own (take i vs))) k))

    more : all_own (take (i + 1) vs) ≡ all_own (take i vs) ++ (get_or now i d).own
    more =
        let inside : i < length vs = omega (arith, low, h.turn.size) in
        ap all_own (take_more vs i (get_or now i d) inside ∙ ap (λ (x : Laborer V M). take i vs ++ x ∷ []) (get_or_from_slice_get vs i (get_or now i d) (get_or now i d) at))
        ∙ sym (flat_map_more (λ (x : Laborer V M). x.own) [] (take i vs) (get_or now i d))

    pub gathering_goes : IsDue t old (get_or now i d) → IsTakenIn t pass after cache new (get_or now i d) w → AreGathering after new (set now i w) (i + 1)
    gathering_goes due taken =
        let seat : taken.seat ≡ due.seat = one taken.seat due.seat (sym taken.pass ∙ due.pass) in
        record {
          of = taken.of;
          entries = taken.entries ∙ (ap (λ es. es ++ (get_or now i d).own) h.entries ∙ (append_assoc old (all_own (take i vs)) (get_or now i d).own ∙ ap (λ es. old ++ es) (sym more)));
          won_codes = taken.codes ∙ (ap (λ cs. cs ++ won taken.seat) h.won_codes ∙ (ap (λ cs. codes (all_own (take i vs)) ++ cs) (ap won seat ∙ due.won_own)
              ∙ (sym (map-append (λ (e : Name ℕ ℕ × List (Arc V (Name ℕ ℕ))). code_of e.0) (all_own (take i vs)) (get_or now i d).own) ∙ ap codes (sym more))));
          sum = let p : parts taken.seat ≡ 1 = ap parts seat ∙ due.one in omega (arith, taken.sum, h.sum, p);
          learned = λ some. taken.learned;
          finds = λ k v s below there has x c. ⊎_elim
              (λ (e : k ≡ i).
              let same : v ≡ get_or now i d = first v (get_or now i d) (sym there ∙ (ap (slice_get vs) e ∙ at)) in
              let s_is : s ≡ taken.seat = one s taken.seat (sym has ∙ (ap (λ (y : Laborer V M). y.pass) same ∙ taken.pass)) in
              subst (λ (xs : List (ℕ × ℕ)). Contains xs x) (sym taken.finds) (Contains-append_right (found pass) (found taken.seat) x (subst (λ (p : Pass). Contains (found p) x) s_is c)))
              (λ (n : k ≡ i → ⊥). subst (λ (xs : List (ℕ × ℕ)). Contains xs x) (sym taken.finds) (Contains-append_left (found pass) (found taken.seat) x (h.finds k v s (omega (arith, below, n)) there has x c)))
              (cases_eq k i);
          turn = turn_goes IsEmptied vs now i d w h.turn low taken.is;
          served = λ k v below there. ⊎_elim
              (λ (e : k ≡ i). let same : v ≡ get_or now i d = first v (get_or now i d) (sym there ∙ (ap (slice_get vs) e ∙ at)) in ap (λ (y : Laborer V M). y.served) same ∙ here)
              (λ (n : k ≡ i → ⊥). h.served k v (omega (arith, below, n)) there)
              (cases_eq k i);
        }
      where
        one : (a b : Pass) → Some a ≡ Some b → a ≡ b
        one a b e = cc

        first : (a b : Laborer V M) → Some a ≡ Some b → a ≡ b
        first a b e = cc

  pub gathering_ends : (pass : Pass) (cache : Entries V (Name ℕ ℕ)) (now : List (Laborer V M)) (i : ℕ) → AreGathering pass cache now i → i ≡ length now → AreGathered t before pass old cache vs now
  gathering_ends pass cache now i h all =
      let size : length vs ≡ i = omega (arith, all, h.turn.size) in
      let whole : take i vs ≡ vs = take_all i vs (omega (arith, size)) in
      record {
        of = h.of;
        entries = h.entries ∙ ap (λ xs. old ++ all_own xs) whole;
        won_codes = h.won_codes ∙ ap (λ xs. codes (all_own xs)) whole;
        sum = omega (arith, h.sum, size);
        learned = λ some. h.learned (omega (arith, some, size));
        finds = λ k v seat there. h.finds k v seat (let low = slice_get_within vs k v there in omega (arith, low, size)) there;
        emptied = turn_ends IsEmptied vs now i h.turn (omega (arith, all));
      }
