-- Paths collected in their order: what stands in the list, and that it ascends.
use Rattle.std.proofs.Common.{◌≡◌, ◌⊎◌, inl, inr, ℕ, ◌+◌, ◌<◌, ◌≤◌, suc, Bool, true, false, cond, List, [], ◌∷◌, ◌++◌, Some, None, length, take, drop, sym, refl, ap, ◌∙◌, subst, arith, Ordering, Less, Equal, Greater}
use Rattle.std.specs.Ordering.{ordering_reverse}
use Rattle.fst_semiring.specs.Cost.{Cost, best, finite, infinite}
use Rattle.fst_semiring.specs.declared.arc_type.ArcType.{ArcType}
use Rattle.fst_semiring.specs.Semiring.{times}
use Rattle.fst_machine.specs.Graph.{Graph}
use Rattle.fst_machine.specs.Letters.{product}
use Rattle.fst_machine.specs.Paths.{IsPath, letters}
use Rattle.fst_machine.specs.Relation.{IsSuccessful}
use Rattle.fst_machine.specs.BreadthFirst.{Has}
use Rattle.fst_machine.specs.PathOrder.{WeightedPath, path_cmp, Ascends}
use Rattle.fst_machine.proofs.PathOrder.{path_total, path_cmp_equal}
use Rattle.fst_plain.specs.PlainPaths.{Part, ListsPaths, ArePartsBelow}
use Rattle.fst_plain.specs.Collected.{advance, place_in, ties_by, ties_in, placed, inserted, kept, collected}

-- what stood in the list stands in it
inserted_old : (bs : List (WeightedPath ℕ)) (a c : WeightedPath ℕ) → Has bs c → Has (inserted bs a) c
inserted_old [] a c h = absurd h
inserted_old (b ∷ bs) a c h = by_order (path_cmp b a) h (inserted_old bs a c)
  where
    by_order : (o : Ordering) → Has (b ∷ bs) c → (Has bs c → Has (inserted bs a) c) → Has (placed o b bs a (inserted bs a)) c
    by_order Less (inl e) rest = inl e
    by_order Less (inr k) rest = inr (rest k)
    by_order Equal k rest = k
    by_order Greater k rest = inr k

-- and the new path, where only it ties with itself
inserted_new : (bs : List (WeightedPath ℕ)) (a : WeightedPath ℕ) → ((b : WeightedPath ℕ) → Has bs b → path_cmp b a ≡ Equal → b ≡ a) → Has (inserted bs a) a
inserted_new [] a ties = inl refl
inserted_new (b ∷ bs) a ties = by_order (path_cmp b a) refl (inserted_new bs a (λ c h. ties c (inr h)))
  where
    by_order : (o : Ordering) → path_cmp b a ≡ o → Has (inserted bs a) a → Has (placed o b bs a (inserted bs a)) a
    by_order Less e rest = inr rest
    by_order Equal e rest = inl (ties b (inl refl) e)
    by_order Greater e rest = inl refl

-- and nothing else
inserted_only : (bs : List (WeightedPath ℕ)) (a c : WeightedPath ℕ) → Has (inserted bs a) c → Has bs c ⊎ (a ≡ c)
inserted_only [] a c (inl e) = inr e
inserted_only [] a c (inr none) = absurd none
inserted_only (b ∷ bs) a c h = by_order (path_cmp b a) h (inserted_only bs a c)
  where
    by_rest : Has bs c ⊎ (a ≡ c) → Has (b ∷ bs) c ⊎ (a ≡ c)
    by_rest (inl k) = inl (inr k)
    by_rest (inr e) = inr e

    by_order : (o : Ordering) → Has (placed o b bs a (inserted bs a)) c → (Has (inserted bs a) c → Has bs c ⊎ (a ≡ c)) → Has (b ∷ bs) c ⊎ (a ≡ c)
    by_order Less (inl e) rest = inl (inl e)
    by_order Less (inr k) rest = by_rest (rest k)
    by_order Equal k rest = inl k
    by_order Greater (inl e) rest = inr e
    by_order Greater (inr k) rest = inl k

-- it ascends, if it did
inserted-Ascends : (bs : List (WeightedPath ℕ)) (a : WeightedPath ℕ) → Ascends bs → Ascends (inserted bs a)
inserted-Ascends [] a h = ((λ c none. absurd none), tt)
inserted-Ascends (b ∷ bs) a h = by_order (path_cmp b a) refl (inserted-Ascends bs a h.1)
  where
    later : path_cmp b a ≡ Less → (c : WeightedPath ℕ) → Has bs c ⊎ (a ≡ c) → path_cmp b c ≡ Less
    later e c (inl k) = h.0 c k
    later e c (inr f) = subst (λ (z : WeightedPath ℕ). path_cmp b z ≡ Less) f e

    first : path_cmp b a ≡ Greater → (c : WeightedPath ℕ) → Has (b ∷ bs) c → path_cmp a c ≡ Less
    first e c (inl f) = subst (λ (z : WeightedPath ℕ). path_cmp a z ≡ Less) f ((path_total {N = ℕ}).antisymm a b ∙ ap ordering_reverse e)
    first e c (inr k) = (path_total {N = ℕ}).trans a b c ((path_total {N = ℕ}).antisymm a b ∙ ap ordering_reverse e) (h.0 c k)

    by_order : (o : Ordering) → path_cmp b a ≡ o → Ascends (inserted bs a) → Ascends (placed o b bs a (inserted bs a))
    by_order Less e rest = ((λ c k. later e c (inserted_only bs a c k)), rest)
    by_order Equal e rest = h
    by_order Greater e rest = (first e, h)

-- the path goes to its place, or the list stays
pub inserted_is : (bs : List (WeightedPath ℕ)) (a : WeightedPath ℕ) → inserted bs a ≡ cond (ties_in bs a) bs (take (place_in bs a) bs ++ a ∷ drop (place_in bs a) bs)
inserted_is [] a = refl
inserted_is (b ∷ bs) a = by_order (path_cmp b a) (ties_in bs a) (inserted_is bs a)
  where
    by_order : (o : Ordering) (t : Bool) → inserted bs a ≡ cond t bs (take (place_in bs a) bs ++ a ∷ drop (place_in bs a) bs) → placed o b bs a (inserted bs a) ≡ cond (ties_by o t) (b ∷ bs) (take (advance o (suc (place_in bs a))) (b ∷ bs) ++ a ∷ drop (advance o (suc (place_in bs a))) (b ∷ bs))
    by_order Less true e = ap (λ cs. b ∷ cs) e
    by_order Less false e = ap (λ cs. b ∷ cs) e
    by_order Equal t e = refl
    by_order Greater t e = refl

-- What is collected so far: in order, paths of at most k arcs that succeed.
record Collects (kind : ArcType) (g : Graph ℕ) (k : ℕ) (found : List (WeightedPath ℕ)) : Type 0 where
  pub ascends : Ascends found
  pub only : (a : WeightedPath ℕ) → Has found a → IsSuccessful kind g a.path a.weight × (length a.path ≤ k)

-- one path more
collects_more : (kind : ArcType) (g : Graph ℕ) (k : ℕ) (found : List (WeightedPath ℕ)) (a : WeightedPath ℕ) → Collects kind g k found → IsSuccessful kind g a.path a.weight → length a.path ≤ k → Collects kind g k (inserted found a) × Has (inserted found a) a
collects_more kind g k found a c good short = (record { ascends = inserted-Ascends found a c.ascends; only = λ b h. by_part b (inserted_only found a b h) }, inserted_new found a (λ b h e. path_cmp_equal kind g b a (c.only b h).0 good e))
  where
    by_part : (b : WeightedPath ℕ) → Has found b ⊎ (a ≡ b) → IsSuccessful kind g b.path b.weight × (length b.path ≤ k)
    by_part b (inl h) = c.only b h
    by_part b (inr e) = subst (λ (z : WeightedPath ℕ). IsSuccessful kind g z.path z.weight × (length z.path ≤ k)) e (good, short)

-- The part, as a path with its weight where its end is final.
abbrev IsOf : ArcType → Graph ℕ → Part → WeightedPath ℕ → Type 0
IsOf kind g a b = (g.final a.end ≡ infinite → ⊥) × (b.path ≡ a.path) × (b.weight ≡ times kind a.product (g.final a.end))

-- one part more
keeps_more : (kind : ArcType) (g : Graph ℕ) (start k : ℕ) (found : List (WeightedPath ℕ)) (a : Part) → g.start ≡ Some start → Collects kind g k found → IsPath g start a.path a.end → length a.path ≤ k → a.product ≡ product kind (letters a.path) → Collects kind g k (kept kind (g.final a.end) a found) × ((b : WeightedPath ℕ) → Has found b → Has (kept kind (g.final a.end) a found) b) × ((b : WeightedPath ℕ) → IsOf kind g a b → Has (kept kind (g.final a.end) a found) b)
keeps_more kind g start k found a starts c leads short same = by_final (g.final a.end) refl
  where
    good : (w : Cost) → g.final a.end ≡ w → (w ≡ infinite → ⊥) → IsSuccessful kind g a.path (times kind a.product w)
    good w e some = record {
      first = start;
      last = a.end;
      starts = starts;
      leads = leads;
      final = λ none. some (sym e ∙ none);
      weight = (λ i. times kind (same i) (sym e i));
    }

    equal : (w : Cost) → g.final a.end ≡ w → (b : WeightedPath ℕ) → IsOf kind g a b → ◌≡◌ {A = WeightedPath ℕ} (record { path = a.path; weight = times kind a.product w }) b
    equal w e b h = λ i. record { path = sym h.1 i; weight = sym (h.2 ∙ ap (times kind a.product) e) i }

    takes : (w : Cost) → g.final a.end ≡ w → (w ≡ infinite → ⊥) → Collects kind g k (inserted found (record { path = a.path; weight = times kind a.product w })) × ((b : WeightedPath ℕ) → Has found b → Has (inserted found (record { path = a.path; weight = times kind a.product w })) b) × ((b : WeightedPath ℕ) → IsOf kind g a b → Has (inserted found (record { path = a.path; weight = times kind a.product w })) b)
    takes w e some =
        let new : WeightedPath ℕ = record { path = a.path; weight = times kind a.product w } in
        let more = collects_more kind g k found new c (good w e some) short in
        (more.0, (λ b h. inserted_old found new b h), (λ b h. subst (λ (z : WeightedPath ℕ). Has (inserted found new) z) (equal w e b h) more.1))

    by_final : (w : Cost) → g.final a.end ≡ w → Collects kind g k (kept kind w a found) × ((b : WeightedPath ℕ) → Has found b → Has (kept kind w a found) b) × ((b : WeightedPath ℕ) → IsOf kind g a b → Has (kept kind w a found) b)
    by_final best e = takes best e (λ none. absurd (cc))
    by_final (finite x y) e = takes (finite x y) e (λ none. absurd (cc))
    by_final infinite e = (c, (λ b h. h), (λ b h. absurd (h.0 e)))

-- all parts
collects_all : (kind : ArcType) (g : Graph ℕ) (start k : ℕ) (parts : List Part) (found : List (WeightedPath ℕ)) → g.start ≡ Some start → Collects kind g k found → ((a : Part) → Has parts a → IsPath g start a.path a.end × (length a.path < suc k) × (a.product ≡ product kind (letters a.path))) → Collects kind g k (collected kind g parts found) × ((b : WeightedPath ℕ) → Has found b → Has (collected kind g parts found) b) × ((a : Part) (b : WeightedPath ℕ) → Has parts a → IsOf kind g a b → Has (collected kind g parts found) b)
collects_all kind g start k [] found starts c good = (c, (λ b h. h), (λ a b h. absurd h))
collects_all kind g start k (a ∷ parts) found starts c good =
    let here = good a (inl refl) in
    let one = keeps_more kind g start k found a starts c here.0 (omega (arith, here.1)) here.2 in
    let rest = collects_all kind g start k parts (kept kind (g.final a.end) a found) starts one.0 (λ b h. good b (inr h)) in
    (rest.0, (λ b h. rest.1 b (one.1 b h)), by_part one.1 one.2 rest.1 rest.2)
  where
    by_part : ((b : WeightedPath ℕ) → Has found b → Has (kept kind (g.final a.end) a found) b) → ((b : WeightedPath ℕ) → IsOf kind g a b → Has (kept kind (g.final a.end) a found) b) → ((b : WeightedPath ℕ) → Has (kept kind (g.final a.end) a found) b → Has (collected kind g parts (kept kind (g.final a.end) a found)) b) → ((c : Part) (b : WeightedPath ℕ) → Has parts c → IsOf kind g c b → Has (collected kind g parts (kept kind (g.final a.end) a found)) b) → (c : Part) (b : WeightedPath ℕ) → Has (a ∷ parts) c → IsOf kind g c b → Has (collected kind g parts (kept kind (g.final a.end) a found)) b
    by_part old new stays rest c b (inl e) h = stays b (new b (subst (λ (z : Part). IsOf kind g z b) (sym e) h))
    by_part old new stays rest c b (inr there) h = rest c b there h

-- so all successful paths with at most k arcs are listed, in their order
pub collected_lists : (kind : ArcType) (g : Graph ℕ) (start k : ℕ) (parts : List Part) → g.start ≡ Some start → ArePartsBelow kind g start (k + 1) parts → ListsPaths kind g k (collected kind g parts [])
collected_lists kind g start k parts starts p =
    let all = collects_all kind g start k parts [] starts (record { ascends = tt; only = λ a none. absurd none }) (λ a h. let o = p.only a h in (o.0, (let low = o.1 in omega arith), o.2)) in
    record {
      ascends = all.0.ascends;
      only = all.0.only;
      all = λ a good short.
          let first : good.first ≡ start = let e : Some good.first ≡ Some start = sym good.starts ∙ starts in cc in
          let leads : IsPath g start a.path good.last = subst (λ (z : ℕ). IsPath g z a.path good.last) first good.leads in
          all.2 (record { path = a.path; end = good.last; product = product kind (letters a.path) }) a (p.all a.path good.last leads (omega (arith, short))) (good.final, refl, good.weight);
    }

-- one part more behind the others
pub collected-push : (kind : ArcType) (g : Graph ℕ) (parts : List Part) (a : Part) (found : List (WeightedPath ℕ)) → collected kind g (parts ++ a ∷ []) found ≡ kept kind (g.final a.end) a (collected kind g parts found)
collected-push kind g [] a found = refl
collected-push kind g (b ∷ parts) a found = collected-push kind g parts a (kept kind (g.final b.end) b found)

-- with no start there is no successful path
pub no_start_lists : (kind : ArcType) (g : Graph ℕ) (k : ℕ) → g.start ≡ None → ListsPaths kind g k []
no_start_lists kind g k none = record { ascends = tt; only = λ a h. absurd h; all = λ a good short. absurd (let e : None ≡ Some good.first = sym none ∙ good.starts in cc) }
