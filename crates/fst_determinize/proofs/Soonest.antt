-- Graphs whose names have their arcs by label, each label once: a word leads to one name by one path, and a breadth-first
-- list stands in the order of the first words that lead to its names.
use Rattle.std.proofs.Common.{◌≡◌, ◌⊎◌, inl, inr, ℕ, ◌<◌, ◌≤◌, zero, suc, List, [], ◌∷◌, ◌++◌, Some, slice_get, sym, refl, ap, ap₂, ◌∙◌, subst, arith}
use Rattle.std.proofs.lemmas.Bool.{cases_eq, cases_order}
use Rattle.std.proofs.lemmas.Option.{same_Some}
use Rattle.fst_semiring.specs.Cost.{Cost}
use Rattle.fst_machine.specs.BreadthFirst.{IsBreadthFirst, IsLeastPair, LeadsTo, Precedes}
use Rattle.fst_machine.specs.Graph.{Graph}
use Rattle.fst_machine.specs.Letters.{label_word}
use Rattle.fst_machine.specs.Machine.{Arc}
use Rattle.fst_machine.specs.Paths.{IsPath, Transition, letters}
use Rattle.fst_machine.proofs.BreadthFirst.{walked_of_breadth_first}
use Rattle.fst_machine.proofs.Elements.{Apart_at, Has_at, at_Has}
use Rattle.fst_machine.proofs.PathParts.{IsPath-append, same_transition}
use Rattle.fst_machine.proofs.Walks.{walked_from_start}
use Rattle.fst_determinize.specs.Subsets.{AscendsBy}
use Rattle.fst_trim.specs.WordOrder.{IsSooner}
use Rattle.fst_determinize.proofs.Spelling.{word-push}
use Rattle.fst_trim.proofs.WordOrder.{empty_first, sooner_last, sooner_push}

-- of two elements of an ascending list the earlier has the lesser key
ascends_at : {X : Type 0} (key : X → ℕ) (xs : List X) (i j : ℕ) (x y : X) → AscendsBy key xs → slice_get xs i ≡ Some x → slice_get xs j ≡ Some y → i < j → key x < key y
ascends_at key [] i j x y up e f low = absurd (cc)
ascends_at key (z ∷ xs) i zero x y up e f low = absurd (omega arith)
ascends_at key (z ∷ xs) zero (suc j) x y up e f low = let here : z ≡ x = cc in subst (λ u. key u < key y) here (up.0 y (at_Has xs j y f))
ascends_at key (z ∷ xs) (suc i) (suc j) x y up e f low = ascends_at key xs i j x y up.1 e f (omega arith)

-- and elements with one key stand in one place
ascends_place : {X : Type 0} (key : X → ℕ) (xs : List X) (i j : ℕ) (x y : X) → AscendsBy key xs → slice_get xs i ≡ Some x → slice_get xs j ≡ Some y → key x ≡ key y → i ≡ j
ascends_place key xs i j x y up e f same = by_order (cases_order i j)
  where
    by_order : (i ≡ j) ⊎ ((i < j) ⊎ (j < i)) → i ≡ j
    by_order (inl here) = here
    by_order (inr (inl low)) = let less = ascends_at key xs i j x y up e f low in absurd (omega (arith, less, same))
    by_order (inr (inr high)) = let less = ascends_at key xs j i y x up f e high in absurd (omega (arith, less, same))

precedes_then : (i k j l p q : ℕ) → Precedes i k j l → Precedes j l p q → Precedes i k p q
precedes_then i k j l p q (inl one) (inl two) = inl (omega (arith, one, two))
precedes_then i k j l p q (inl one) (inr two) = let e = two.0 in inl (omega (arith, one, e))
precedes_then i k j l p q (inr one) (inl two) = let e = one.0 in inl (omega (arith, two, e))
precedes_then i k j l p q (inr one) (inr two) = let e = one.0 in let f = two.0 in let low = one.1 in let high = two.1 in inr (omega (arith, e, f), omega (arith, low, high))

-- a path that is not empty has a last arc
pub last_arc : {N : Type 0} (g : Graph N) (path : List (Transition N)) (p q : N) → IsPath g p path q
    → ((path ≡ []) × (p ≡ q)) ⊎ ((front : List (Transition N)) × (t : Transition N) × (path ≡ front ++ t ∷ []) × IsPath g p front t.state × (slice_get (g.arcs t.state) t.place ≡ Some t.arc) × (t.arc.next ≡ q))
last_arc g [] p q here = inl (refl, here)
last_arc {N} g (s ∷ path) p q leads = by_rest (last_arc g path s.arc.next q leads.1)
  where
    has : slice_get (g.arcs s.state) s.place ≡ Some s.arc
    has = subst (λ (n : N). slice_get (g.arcs n) s.place ≡ Some s.arc) (sym leads.0.0) leads.0.1

    by_rest : ((path ≡ []) × (s.arc.next ≡ q)) ⊎ ((front : List (Transition N)) × (t : Transition N) × (path ≡ front ++ t ∷ []) × IsPath g s.arc.next front t.state × (slice_get (g.arcs t.state) t.place ≡ Some t.arc) × (t.arc.next ≡ q))
        → ((s ∷ path ≡ []) × (p ≡ q)) ⊎ ((front : List (Transition N)) × (t : Transition N) × (s ∷ path ≡ front ++ t ∷ []) × IsPath g p front t.state × (slice_get (g.arcs t.state) t.place ≡ Some t.arc) × (t.arc.next ≡ q))
    by_rest (inl none) = inr ([], s, ap (λ ts. s ∷ ts) none.0, sym leads.0.0, has, none.1)
    by_rest (inr some) = inr (s ∷ some.0, some.1, ap (λ ts. s ∷ ts) some.2, (leads.0, some.3), some.4, some.5)

module _ {N : Type 0} (g : Graph N) (up : (n : N) → AscendsBy (λ a. a.ilabel) (g.arcs n)) where
  -- a word leads from a name by one path
  pub one_way : (xs ys : List (Transition N)) (p q r : N) → IsPath g p xs q → IsPath g p ys r → label_word (letters xs) ≡ label_word (letters ys) → (xs ≡ ys) × (q ≡ r)
  one_way [] [] p q r one two e = (refl, sym one ∙ two)
  one_way [] (t ∷ ys) p q r one two e = absurd (cc)
  one_way (s ∷ xs) [] p q r one two e = absurd (cc)
  one_way (s ∷ xs) (t ∷ ys) p q r one two e =
      let head : s.arc.ilabel ≡ t.arc.ilabel = cc in
      let tail : label_word (letters xs) ≡ label_word (letters ys) = cc in
      let place = ascends_place (λ (a : Arc Cost N). a.ilabel) (g.arcs p) s.place t.place s.arc t.arc (up p) one.0.1 two.0.1 head in
      let same : s ≡ t = same_transition g p s t one.0 two.0 place in
      let moved : IsPath g s.arc.next ys r = subst (λ (z : Transition N). IsPath g z.arc.next ys r) (sym same) two.1 in
      let rest = one_way xs ys s.arc.next q r one.1 moved tail in
      (ap₂ (◌∷◌) same rest.0, rest.1)

  module _ (start : N) (names : List N) (list : IsBreadthFirst g start names) where
    -- the word leads to the name
    pub record Leads (word : List ℕ) (z : N) : Type 0 where
      pub path : List (Transition N)
      pub leads : IsPath g start path z
      pub reads : label_word (letters path) ≡ word

    pub leads_once : (word : List ℕ) (y z : N) → Leads word y → Leads word z → y ≡ z
    leads_once word y z one two = (one_way one.path two.path start y z one.leads two.leads (one.reads ∙ sym two.reads)).1

    leads_on : (word : List ℕ) (n : N) (k : ℕ) (a : Arc Cost N) → Leads word n → slice_get (g.arcs n) k ≡ Some a → Leads (word ++ a.ilabel ∷ []) a.next
    leads_on word n k a l at =
        let t : Transition N = record { state = n; place = k; arc = a } in
        record {
          path = l.path ++ t ∷ [];
          leads = IsPath-append g l.path (t ∷ []) start n a.next l.leads ((refl, at), refl);
          reads = word-push l.path t ∙ ap (λ x. x ++ a.ilabel ∷ []) l.reads;
        }

    -- The word leads to the name in this place, and each other word that leads to it or to a later name comes later.
    pub record Soonest (i : ℕ) (z : N) (x : List ℕ) : Type 0 where
      pub leads : Leads x z
      pub first : (j : ℕ) (u : N) (y : List ℕ) → i ≤ j → slice_get names j ≡ Some u → Leads y u → (x ≡ y) ⊎ IsSooner x y

    -- the name in place i, which an arc of the name in place p, in place k, found first
    module _ (i p k : ℕ) (z n : N) (a : Arc Cost N) (later : 0 < i) (at : slice_get names i ≡ Some z) (least : IsLeastPair g names z p k) (there : slice_get names p ≡ Some n)
        (has : slice_get (g.arcs n) k ≡ Some a) (x : List ℕ) (before : Soonest p n x) where
      -- no arc from before leads to it or to a later name
      not_before : (j : ℕ) (u : N) (q l : ℕ) → i ≤ j → slice_get names j ≡ Some u → LeadsTo g names u q l → Precedes q l p k → ⊥
      not_before j u q l low at_u leads early = by_order (cases_eq i j)
        where
          by_order : (i ≡ j) ⊎ (i ≡ j → ⊥) → ⊥
          by_order (inl e) =
              let same : u ≡ z = same_Some u z (sym at_u ∙ (ap (slice_get names) (sym e) ∙ at)) in
              least.least q l (subst (λ (v : N). LeadsTo g names v q l) same leads) early
          by_order (inr other) =
              let found = list.found j u at_u (omega (arith, low, later)) in
              let pair = list.ordered i j z u p k found.0 found.1 later (omega (arith, low, other)) at at_u least found.2 in
              found.2.least q l leads (precedes_then q l p k found.0 found.1 early pair)

      -- a word and a label that lead to it or to a later name
      by_last : (j : ℕ) (u : N) (y : List ℕ) (q l : ℕ) (m : N) (b : Arc Cost N) → i ≤ j → slice_get names j ≡ Some u → slice_get names q ≡ Some m → slice_get (g.arcs m) l ≡ Some b → b.next ≡ u → Leads y m
          → (x ++ a.ilabel ∷ [] ≡ y ++ b.ilabel ∷ []) ⊎ IsSooner (x ++ a.ilabel ∷ []) (y ++ b.ilabel ∷ [])
      by_last j u y q l m b low at_u at_m has_b next leads = by_place (cases_order p q)
        where
          goes : LeadsTo g names u q l
          goes = record { name = m; arc = b; there = at_m; has = has_b; leads = next }

          by_label : p ≡ q → x ≡ y → (k ≡ l) ⊎ ((k < l) ⊎ (l < k)) → (x ++ a.ilabel ∷ [] ≡ y ++ b.ilabel ∷ []) ⊎ IsSooner (x ++ a.ilabel ∷ []) (y ++ b.ilabel ∷ [])
          by_label e same order =
              let name : n ≡ m = same_Some n m (sym there ∙ (ap (slice_get names) e ∙ at_m)) in
              by_arc order (subst (λ (v : N). slice_get (g.arcs v) l ≡ Some b) (sym name) has_b)
            where
              by_arc : (k ≡ l) ⊎ ((k < l) ⊎ (l < k)) → slice_get (g.arcs n) l ≡ Some b → (x ++ a.ilabel ∷ [] ≡ y ++ b.ilabel ∷ []) ⊎ IsSooner (x ++ a.ilabel ∷ []) (y ++ b.ilabel ∷ [])
              by_arc (inl f) own =
                  let arc : a ≡ b = same_Some a b (sym has ∙ (ap (slice_get (g.arcs n)) f ∙ own)) in
                  inl (ap₂ (λ (z : List ℕ) (c : Arc Cost N). z ++ c.ilabel ∷ []) same arc)
              by_arc (inr (inl less)) own = inr (subst (λ (z : List ℕ). IsSooner (x ++ a.ilabel ∷ []) (z ++ b.ilabel ∷ [])) same (sooner_last x a.ilabel b.ilabel (ascends_at (λ (c : Arc Cost N). c.ilabel) (g.arcs n) k l a b (up n) has own less)))
              by_arc (inr (inr more)) own = absurd (not_before j u q l low at_u goes (inr (sym e, more)))

          by_word : p ≡ q → (x ≡ y) ⊎ IsSooner x y → (x ++ a.ilabel ∷ [] ≡ y ++ b.ilabel ∷ []) ⊎ IsSooner (x ++ a.ilabel ∷ []) (y ++ b.ilabel ∷ [])
          by_word e (inl same) = by_label e same (cases_order k l)
          by_word e (inr sooner) = inr (sooner_push x y a.ilabel b.ilabel sooner)

          by_later : p < q → (x ≡ y) ⊎ IsSooner x y → (x ++ a.ilabel ∷ [] ≡ y ++ b.ilabel ∷ []) ⊎ IsSooner (x ++ a.ilabel ∷ []) (y ++ b.ilabel ∷ [])
          by_later less (inl same) =
              let name : n ≡ m = leads_once y n m (subst (λ (w : List ℕ). Leads w n) same before.leads) leads in
              let place : p ≡ q = Apart_at names p q m list.apart (there ∙ ap Some name) at_m in
              absurd (omega (arith, less, place))
          by_later less (inr sooner) = inr (sooner_push x y a.ilabel b.ilabel sooner)

          by_place : (p ≡ q) ⊎ ((p < q) ⊎ (q < p)) → (x ++ a.ilabel ∷ [] ≡ y ++ b.ilabel ∷ []) ⊎ IsSooner (x ++ a.ilabel ∷ []) (y ++ b.ilabel ∷ [])
          by_place (inl e) = by_word e (before.first q m y (omega (arith, e)) at_m leads)
          by_place (inr (inl less)) = by_later less (before.first q m y (omega (arith, less)) at_m leads)
          by_place (inr (inr more)) = absurd (not_before j u q l low at_u goes (inl more))

      first_of : (j : ℕ) (u : N) (y : List ℕ) → i ≤ j → slice_get names j ≡ Some u → Leads y u → (x ++ a.ilabel ∷ [] ≡ y) ⊎ IsSooner (x ++ a.ilabel ∷ []) y
      first_of j u y low at_u l = by_end (last_arc g l.path start u l.leads)
        where
          by_end : ((l.path ≡ []) × (start ≡ u)) ⊎ ((front : List (Transition N)) × (t : Transition N) × (l.path ≡ front ++ t ∷ []) × IsPath g start front t.state × (slice_get (g.arcs t.state) t.place ≡ Some t.arc) × (t.arc.next ≡ u))
              → (x ++ a.ilabel ∷ [] ≡ y) ⊎ IsSooner (x ++ a.ilabel ∷ []) y
          by_end (inl none) =
              let place : 0 ≡ j = Apart_at names 0 j u list.apart (list.begins ∙ ap Some none.1) at_u in
              absurd (omega (arith, low, later, place))
          by_end (inr some) =
              let t = some.1 in
              let at_t = Has_at names t.state (walked_from_start g start names (walked_of_breadth_first g start names list) some.0 t.state some.3) in
              let word : label_word (letters some.0) ++ t.arc.ilabel ∷ [] ≡ y = sym (word-push some.0 t) ∙ (ap (λ ts. label_word (letters ts)) (sym some.2) ∙ l.reads) in
              let from : Leads (label_word (letters some.0)) t.state = record { path = some.0; leads = some.3; reads = refl } in
              subst (λ (w : List ℕ). (x ++ a.ilabel ∷ [] ≡ w) ⊎ IsSooner (x ++ a.ilabel ∷ []) w) word
              (by_last j u (label_word (letters some.0)) at_t.0 t.place t.state t.arc low at_u at_t.1 some.4 some.5 from)

    soonest_below : (n i : ℕ) (z : N) → i < n → slice_get names i ≡ Some z → (x : List ℕ) × Soonest i z x
    soonest_below zero i z low at = absurd (omega arith)
    soonest_below (suc n) i z low at = by_place (cases_eq i 0) (λ j y less there. soonest_below n j y less there)
      where
        by_place : (i ≡ 0) ⊎ (i ≡ 0 → ⊥) → ((j : ℕ) (y : N) → j < n → slice_get names j ≡ Some y → (x : List ℕ) × Soonest j y x) → (x : List ℕ) × Soonest i z x
        by_place (inl e) early =
            let here : start ≡ z = same_Some start z (sym list.begins ∙ (ap (slice_get names) (sym e) ∙ at)) in
            ([], record { leads = record { path = []; leads = here; reads = refl }; first = λ j u y le at_u l. empty_first y })
        by_place (inr some) early =
            let found = list.found i z at (omega (arith, some)) in
            let lead = found.2.leads in
            let less = found.3 in
            let before = early found.0 lead.name (omega (arith, less, low)) lead.there in (
              before.0 ++ lead.arc.ilabel ∷ [],
              record {
                leads = subst (λ (u : N). Leads (before.0 ++ lead.arc.ilabel ∷ []) u) lead.leads (leads_on before.0 lead.name found.1 lead.arc before.1.leads lead.has);
                first = λ j u y le at_u l. first_of i found.0 found.1 z lead.name lead.arc (omega (arith, some)) at found.2 lead.there lead.has before.0 before.1 j u y le at_u l;
              },
            )

    -- Each listed name has such a word.
    pub soonest : (i : ℕ) (z : N) → slice_get names i ≡ Some z → (x : List ℕ) × Soonest i z x
    soonest i z at = soonest_below (suc i) i z (omega arith) at
