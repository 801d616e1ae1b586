-- What stands in collected and merged arcs.
use Rattle.std.proofs.Common.{◌≡◌, ◌⊎◌, inl, inr, ℕ, Bool, true, false, cond, List, [], ◌∷◌, ◌++◌, eqb-true, sym, refl, ap, ◌∙◌, subst}
use Rattle.std.proofs.lemmas.Bool.{and_parts, cases_Bool}
use Rattle.fst_semiring.specs.Cost.{Cost, plus}
use Rattle.fst_semiring.proofs.Order.{plus_assoc, plus_comm, plus_picks, plus_same, plus_trans}
use Rattle.fst_machine.specs.BreadthFirst.{Has}
use Rattle.fst_machine.specs.Machine.{Arc}
use Rattle.fst_machine.proofs.Elements.{Has-append_cases, Has-append_left, Has-append_right}
use Rattle.fst_search.specs.Hops.{NoWorse}
use Rattle.fst_epsilon.specs.Construction.{is_alike, merged, put_arc}
use Rattle.fst_epsilon.specs.Removal.{StandsFor}

-- an arc of this list with equal labels and next state, and with this weight
pub record From (arcs : List (Arc Cost ℕ)) (b : Arc Cost ℕ) : Type 0 where
  pub arc : Arc Cost ℕ
  pub there : Has arcs arc
  pub stands : StandsFor arc b
  pub weight : b.weight ≡ arc.weight

-- an arc of this list with equal labels and next state that is no worse
pub record Best (arcs : List (Arc Cost ℕ)) (a : Arc Cost ℕ) : Type 0 where
  pub arc : Arc Cost ℕ
  pub there : Has arcs arc
  pub stands : StandsFor a arc
  pub no_worse : NoWorse arc.weight a.weight

alike : (a b : Arc Cost ℕ) → is_alike a b ≡ true → StandsFor b a
alike a b e =
    let one = and_parts _ _ e in
    let two = and_parts _ _ one.1 in
    record { ilabel = eqb-true a.ilabel b.ilabel one.0; olabel = eqb-true a.olabel b.olabel two.0; next = eqb-true a.next b.next two.1 }

pub no_worse_left : (a b : Cost) → NoWorse (plus a b) a
no_worse_left a b = plus_comm (plus a b) a ∙ (sym (plus_assoc a a b) ∙ ap (λ z. plus z b) (plus_same a))

pub no_worse_right : (a b : Cost) → NoWorse (plus a b) b
no_worse_right a b = plus_assoc a b b ∙ ap (plus a) (plus_same b)

put_from : (arcs : List (Arc Cost ℕ)) (b x : Arc Cost ℕ) → Has (put_arc arcs b) x → From (b ∷ arcs) x
put_from [] b x (inl e) = record { arc = b; there = inl refl; stands = record { ilabel = ap (λ z. z.ilabel) (sym e); olabel = ap (λ z. z.olabel) (sym e); next = ap (λ z. z.next) (sym e) }; weight = ap (λ z. z.weight) (sym e) }
put_from [] b x (inr none) = absurd none
put_from (a ∷ arcs) b x has = by_test (cases_Bool (is_alike a b)) (put_from arcs b x)
  where
    there : (c : Arc Cost ℕ) → Has (b ∷ arcs) c → Has (b ∷ (a ∷ arcs)) c
    there c (inl e) = inl e
    there c (inr h) = inr (inr h)

    later : From (b ∷ arcs) x → From (b ∷ (a ∷ arcs)) x
    later f = record { arc = f.arc; there = there f.arc f.there; stands = f.stands; weight = f.weight }

    picked : is_alike a b ≡ true → (record a { weight = plus a.weight b.weight }) ≡ x → (plus a.weight b.weight ≡ a.weight) ⊎ (plus a.weight b.weight ≡ b.weight) → From (b ∷ (a ∷ arcs)) x
    picked e is (inl p) = record {
      arc = a;
      there = inr (inl refl);
      stands = record { ilabel = ap (λ (z : Arc Cost ℕ). z.ilabel) (sym is); olabel = ap (λ (z : Arc Cost ℕ). z.olabel) (sym is); next = ap (λ (z : Arc Cost ℕ). z.next) (sym is) };
      weight = ap (λ (z : Arc Cost ℕ). z.weight) (sym is) ∙ p;
    }
    picked e is (inr p) =
        let s = alike a b e in
        record {
          arc = b;
          there = inl refl;
          stands = record { ilabel = ap (λ (z : Arc Cost ℕ). z.ilabel) (sym is) ∙ s.ilabel; olabel = ap (λ (z : Arc Cost ℕ). z.olabel) (sym is) ∙ s.olabel; next = ap (λ (z : Arc Cost ℕ). z.next) (sym is) ∙ s.next };
          weight = ap (λ (z : Arc Cost ℕ). z.weight) (sym is) ∙ p;
        }

    here : is_alike a b ≡ true → Has ((record a { weight = plus a.weight b.weight }) ∷ arcs) x → From (b ∷ (a ∷ arcs)) x
    here e (inl is) = picked e is (plus_picks a.weight b.weight)
    here e (inr h) = record { arc = x; there = inr (inr h); stands = record { ilabel = refl; olabel = refl; next = refl }; weight = refl }

    other : Has (a ∷ put_arc arcs b) x → (Has (put_arc arcs b) x → From (b ∷ arcs) x) → From (b ∷ (a ∷ arcs)) x
    other (inl is) rest = record { arc = a; there = inr (inl refl); stands = record { ilabel = ap (λ z. z.ilabel) (sym is); olabel = ap (λ z. z.olabel) (sym is); next = ap (λ z. z.next) (sym is) }; weight = ap (λ z. z.weight) (sym is) }
    other (inr h) rest = later (rest h)

    by_test : (is_alike a b ≡ true) ⊎ (is_alike a b ≡ false) → (Has (put_arc arcs b) x → From (b ∷ arcs) x) → From (b ∷ (a ∷ arcs)) x
    by_test (inl e) rest = here e (subst (λ (t : Bool). Has (cond t ((record a { weight = plus a.weight b.weight }) ∷ arcs) (a ∷ put_arc arcs b)) x) e has)
    by_test (inr e) rest = other (subst (λ (t : Bool). Has (cond t ((record a { weight = plus a.weight b.weight }) ∷ arcs) (a ∷ put_arc arcs b)) x) e has) rest

self_from : (arcs : List (Arc Cost ℕ)) (x : Arc Cost ℕ) → Has arcs x → From arcs x
self_from arcs x h = record { arc = x; there = h; stands = record { ilabel = refl; olabel = refl; next = refl }; weight = refl }

self_best : (arcs : List (Arc Cost ℕ)) (x : Arc Cost ℕ) → Has arcs x → Best arcs x
self_best arcs x h = record { arc = x; there = h; stands = record { ilabel = refl; olabel = refl; next = refl }; no_worse = plus_same x.weight }

later_best : (c a : Arc Cost ℕ) (arcs : List (Arc Cost ℕ)) → Best arcs a → Best (c ∷ arcs) a
later_best c a arcs f = record { arc = f.arc; there = inr f.there; stands = f.stands; no_worse = f.no_worse }

put_kept : (arcs : List (Arc Cost ℕ)) (b a : Arc Cost ℕ) → Has arcs a → Best (put_arc arcs b) a
put_kept [] b a has = absurd has
put_kept (c ∷ arcs) b a has = by_test (cases_Bool (is_alike c b)) has (put_kept arcs b a)
  where
    both : Arc Cost ℕ
    both = record c { weight = plus c.weight b.weight }

    here : (c ≡ a) ⊎ Has arcs a → Best (both ∷ arcs) a
    here (inl is) = record {
      arc = both;
      there = inl refl;
      stands = record { ilabel = ap (λ (z : Arc Cost ℕ). z.ilabel) is; olabel = ap (λ (z : Arc Cost ℕ). z.olabel) is; next = ap (λ (z : Arc Cost ℕ). z.next) is };
      no_worse = subst (λ (z : Arc Cost ℕ). NoWorse (plus c.weight b.weight) z.weight) is (no_worse_left c.weight b.weight);
    }
    here (inr h) = self_best (both ∷ arcs) a (inr h)

    other : (c ≡ a) ⊎ Has arcs a → (Has arcs a → Best (put_arc arcs b) a) → Best (c ∷ put_arc arcs b) a
    other (inl is) rest = self_best (c ∷ put_arc arcs b) a (inl is)
    other (inr h) rest = later_best c a (put_arc arcs b) (rest h)

    by_test : (is_alike c b ≡ true) ⊎ (is_alike c b ≡ false) → (c ≡ a) ⊎ Has arcs a → (Has arcs a → Best (put_arc arcs b) a) → Best (put_arc (c ∷ arcs) b) a
    by_test (inl e) h rest = subst (λ (t : Bool). Best (cond t (both ∷ arcs) (c ∷ put_arc arcs b)) a) (sym e) (here h)
    by_test (inr e) h rest = subst (λ (t : Bool). Best (cond t (both ∷ arcs) (c ∷ put_arc arcs b)) a) (sym e) (other h rest)

put_new : (arcs : List (Arc Cost ℕ)) (b : Arc Cost ℕ) → Best (put_arc arcs b) b
put_new [] b = self_best (b ∷ []) b (inl refl)
put_new (c ∷ arcs) b = by_test (cases_Bool (is_alike c b)) (put_new arcs b)
  where
    both : Arc Cost ℕ
    both = record c { weight = plus c.weight b.weight }

    here : StandsFor b c → Best (both ∷ arcs) b
    here s = record {
      arc = both;
      there = inl refl;
      stands = record { ilabel = s.ilabel; olabel = s.olabel; next = s.next };
      no_worse = no_worse_right c.weight b.weight;
    }

    by_test : (is_alike c b ≡ true) ⊎ (is_alike c b ≡ false) → Best (put_arc arcs b) b → Best (put_arc (c ∷ arcs) b) b
    by_test (inl e) rest = subst (λ (t : Bool). Best (cond t (both ∷ arcs) (c ∷ put_arc arcs b)) b) (sym e) (here (alike c b e))
    by_test (inr e) rest = subst (λ (t : Bool). Best (cond t (both ∷ arcs) (c ∷ put_arc arcs b)) b) (sym e) (later_best c b (put_arc arcs b) rest)

-- each merged arc is one of those before, with its weight
pub merged_from : (done arcs : List (Arc Cost ℕ)) (x : Arc Cost ℕ) → Has (merged done arcs) x → From (done ++ arcs) x
merged_from done [] x h = self_from (done ++ []) x (Has-append_left done [] x h)
merged_from done (b ∷ arcs) x h = by_rest (merged_from (put_arc done b) arcs x h)
  where
    moved : (f : From (b ∷ done) x) → Has (b ∷ done) f.arc → From (done ++ (b ∷ arcs)) x
    moved f (inl is) = record { arc = f.arc; there = Has-append_right done (b ∷ arcs) f.arc (inl is); stands = f.stands; weight = f.weight }
    moved f (inr h) = record { arc = f.arc; there = Has-append_left done (b ∷ arcs) f.arc h; stands = f.stands; weight = f.weight }

    joined : (f : From (put_arc done b ++ arcs) x) → From (b ∷ done) f.arc → From (b ∷ done) x
    joined f one = record {
      arc = one.arc;
      there = one.there;
      stands = record { ilabel = f.stands.ilabel ∙ one.stands.ilabel; olabel = f.stands.olabel ∙ one.stands.olabel; next = f.stands.next ∙ one.stands.next };
      weight = f.weight ∙ one.weight;
    }

    by_place : (f : From (put_arc done b ++ arcs) x) → Has (put_arc done b) f.arc ⊎ Has arcs f.arc → From (done ++ (b ∷ arcs)) x
    by_place f (inl h) = let one = joined f (put_from done b f.arc h) in moved one one.there
    by_place f (inr h) = record { arc = f.arc; there = Has-append_right done (b ∷ arcs) f.arc (inr h); stands = f.stands; weight = f.weight }

    by_rest : From (put_arc done b ++ arcs) x → From (done ++ (b ∷ arcs)) x
    by_rest f = by_place f (Has-append_cases (put_arc done b) arcs f.arc f.there)

-- each arc has a merged one that is no worse
pub merged_each : (done arcs : List (Arc Cost ℕ)) (a : Arc Cost ℕ) → Has done a ⊎ Has arcs a → Best (merged done arcs) a
merged_each done [] a (inl h) = self_best done a h
merged_each done [] a (inr none) = absurd none
merged_each done (b ∷ arcs) a has = by_place has (λ z. merged_each (put_arc done b) arcs z)
  where
    rest : Type 0
    rest = (z : Arc Cost ℕ) → Has (put_arc done b) z ⊎ Has arcs z → Best (merged (put_arc done b) arcs) z

    joined : (one : Best (put_arc done b) a) → Best (merged (put_arc done b) arcs) one.arc → Best (merged (put_arc done b) arcs) a
    joined one two = record {
      arc = two.arc;
      there = two.there;
      stands = record { ilabel = two.stands.ilabel ∙ one.stands.ilabel; olabel = two.stands.olabel ∙ one.stands.olabel; next = two.stands.next ∙ one.stands.next };
      no_worse = plus_trans two.arc.weight one.arc.weight a.weight two.no_worse one.no_worse;
    }

    over : rest → Best (put_arc done b) a → Best (merged (put_arc done b) arcs) a
    over more one = joined one (more one.arc (inl one.there))

    by_place : Has done a ⊎ ((b ≡ a) ⊎ Has arcs a) → rest → Best (merged done (b ∷ arcs)) a
    by_place (inl h) more = over more (put_kept done b a h)
    by_place (inr (inl is)) more = over more (subst (λ z. Best (put_arc done b) z) is (put_new done b))
    by_place (inr (inr h)) more = more a (inr h)
