-- A road of throws through trees one after another is a road through each.
use Rattle.std.proofs.Common.{◌≡◌, ℕ, ◌+◌, ◌-◌, ◌≤◌, Bool, true, false, cond, T, ◌⊎◌, ◌↔◌, List, [], ◌∷◌, ◌++◌, length, sym, refl, ap, ◌∙◌, subst, inl, inr, arith}
use Rattle.std.proofs.Math.Path.{fun_ext}
use Rattle.outcomes.specs.Trees.{Tree, finished, branching, Sample, bind}
use Rattle.outcomes.specs.Listing.{Leads}
use Rattle.design.specs.Plans.{Plans, nothing, tree_of}
use Rattle.parts.specs.Parts.{Part, parts, holds}
use Rattle.parts.specs.Series.{plan_for, joined, series, chosen}
use Rattle.parts.specs.Roads.{PartRun, Through, all_throws, InPart, InSome, PartByPart}
use Rattle.parts.specs.Laws.{SeriesRoads}
use Rattle.parts.proofs.Chains.{Apart}
use Rattle.parts.proofs.Holds.{holds_is, holds_past, joined_out}
use Rattle.parts.proofs.Series.{apart_chosen}
use Rattle.parts.proofs.Lawfuls.{apart_parts}

-- ---- two trees, the second by the outcome of the first
-- a road through both goes through the first, and from its outcome through the second
record Halfway {A B : Type 0} (t : Tree A) (h : A → Tree B) (ds : List ℕ) (b : B) : Type 0 where
  first : List ℕ
  middle : A
  second : List ℕ
  to_middle : Leads t first middle
  from_middle : Leads (h middle) second b
  both : ds ≡ first ++ second

road_parted : {A B : Type 0} (t : Tree A) (h : A → Tree B) (ds : List ℕ) (b : B) → Leads (bind t h) ds b → Halfway t h ds b
road_parted (finished a) h ds b l = record { first = []; middle = a; second = ds; to_middle = refl; from_middle = l; both = refl }
road_parted (branching m sub) h [] b l = absurd l
road_parted (branching m sub) h (d ∷ ds) b l =
    let r = road_parted (sub d) h ds b l.1 in record {
      first = d ∷ r.first;
      middle = r.middle;
      second = r.second;
      to_middle = (l.0, r.to_middle);
      from_middle = r.from_middle;
      both = ap (λ (xs : List ℕ). d ∷ xs) r.both;
    }

road_joined : {A B : Type 0} (t : Tree A) (h : A → Tree B) (first second : List ℕ) (a : A) (b : B) → Leads t first a → Leads (h a) second b
    → Leads (bind t h) (first ++ second) b
road_joined (finished x) h [] second a b f s = subst (λ y. Leads (h y) second b) (sym f) s
road_joined (finished x) h (d ∷ first) second a b f s = absurd f
road_joined (branching m sub) h [] second a b f s = absurd f
road_joined (branching m sub) h (d ∷ first) second a b f s = (f.0, road_joined (sub d) h first second a b f.1 s)

-- ---- parts one after another
-- the units u of earlier parts, and those of the runs on these parts
abbrev collected : List Part → List PartRun → Sample → Sample
collected [] rs u = u
collected (p ∷ ps) [] u = u
collected (p ∷ ps) (r ∷ rs) u = collected ps rs (joined p u r.outcome)

-- the throws ds lead through the trees of the parts, and w is what the runs have collected
record Gone (B : Plans) (ps : List Part) (u : Sample) (ds : List ℕ) (w : Sample) : Type 0 where
  runs : List PartRun
  through : Through B ps runs
  throws_are : ds ≡ all_throws runs
  outcome_is : collected ps runs u ≡ w

module _ (B : Plans) where
  gone : (ps : List Part) (u : Sample) (ds : List ℕ) (w : Sample) → Leads (series B ps u) ds w → Gone B ps u ds w
  gone [] u [] w l = record { runs = []; through = tt; throws_are = refl; outcome_is = l }
  gone [] u (d ∷ ds) w l = absurd l
  gone (p ∷ ps) u ds w l =
      let r = road_parted (tree_of (plan_for B p)) (λ v. series B ps (joined p u v)) ds w l in
      let g = gone ps (joined p u r.middle) r.second w r.from_middle in record {
        runs = record { throws = r.first; outcome = r.middle } ∷ g.runs;
        through = (r.to_middle, g.through);
        throws_are = r.both ∙ ap (λ (xs : List ℕ). r.first ++ xs) g.throws_are;
        outcome_is = g.outcome_is;
      }

  road_of : (ps : List Part) (rs : List PartRun) (u : Sample) → Through B ps rs → Leads (series B ps u) (all_throws rs) (collected ps rs u)
  road_of [] [] u h = refl
  road_of [] (r ∷ rs) u h = absurd h
  road_of (p ∷ ps) [] u h = absurd h
  road_of (p ∷ ps) (r ∷ rs) u h =
      road_joined (tree_of (plan_for B p)) (λ v. series B ps (joined p u v)) r.throws (all_throws rs) r.outcome (collected ps rs (joined p u r.outcome)) h.0
      (road_of ps rs (joined p u r.outcome) h.1)

-- no unit from the row a on is in u
abbrev NoneYet : Sample → ℕ → Type 0
NoneYet u a = (k : ℕ) → a ≤ k → u k ≡ false

-- the part writes over no unit of the earlier ones
joined_is : (p : Part) (r : PartRun) (u : Sample) → NoneYet u p.at → (k : ℕ) → T (joined p u r.outcome k) ↔ (T (u k) ⊎ InPart p r k)
joined_is p r u none k = by (holds p k) refl (u k) refl (r.outcome (k - p.at))
  where
    by : (b : Bool) → holds p k ≡ b → (x : Bool) → u k ≡ x → (y : Bool) → T (cond b y x) ↔ (T x ⊎ (T b × T y))
    by true is true e y = absurd (let z : ◌≡◌ {A = Bool} true false = sym e ∙ none k (holds_is p k is).0 in subst T z tt)
    by true is false e y = (λ h. inr (tt, h), λ h. elim h [ inl n ↦ absurd n | inr m ↦ m.1 ])
    by false is x e y = (λ h. inl h, λ h. elim h [ inl n ↦ n | inr m ↦ absurd m.0 ])

none_after : (p : Part) (r : PartRun) (u : Sample) → NoneYet u p.at → NoneYet (joined p u r.outcome) (p.at + length p.rows)
none_after p r u none k l = joined_out p u r.outcome k (holds_past p k l) ∙ none k (omega arith)

collected_is : (ps : List Part) (rs : List PartRun) (u : Sample) (a e : ℕ) → Apart a ps e → NoneYet u a → (k : ℕ)
    → T (collected ps rs u k) ↔ (T (u k) ⊎ InSome ps rs k)
collected_is [] rs u a e c none k = (λ h. inl h, λ h. elim h [ inl n ↦ n | inr m ↦ absurd m ])
collected_is (p ∷ ps) [] u a e c none k = (λ h. inl h, λ h. elim h [ inl n ↦ n | inr m ↦ absurd m ])
collected_is (p ∷ ps) (r ∷ rs) u a e c none k =
    let start : NoneYet u p.at = λ i l. none i (omega (arith, c.0)) in
    let here = joined_is p r u start k in
    let there = collected_is ps rs (joined p u r.outcome) (p.at + length p.rows) e c.2 (none_after p r u start) k in (
      λ h. elim (there.0 h) [
        | inl x ↦ elim (here.0 x) [ inl y ↦ inl y | inr y ↦ inr (inl y) ]
        | inr x ↦ inr (inr x)
      ],
      λ h. elim h [
        | inl x ↦ there.1 (inl (here.1 (inl x)))
        | inr x ↦ elim x [ inl y ↦ there.1 (inl (here.1 (inr y))) | inr y ↦ there.1 (inr y) ]
      ],
    )

-- two samples with the same units are one
same_units : (u v : Sample) → ((k : ℕ) → T (u k) ↔ T (v k)) → u ≡ v
same_units u v h = fun_ext (λ k. by (u k) (v k) (h k))
  where
    by : (x y : Bool) → T x ↔ T y → x ≡ y
    by true true e = refl
    by true false e = absurd (e.0 tt)
    by false true e = absurd (e.1 tt)
    by false false e = refl

-- before all parts no unit is taken
union_is : (ps : List Part) (rs : List PartRun) (a e : ℕ) → Apart a ps e → (k : ℕ) → T (collected ps rs nothing k) ↔ InSome ps rs k
union_is ps rs a e c k =
    let h = collected_is ps rs nothing a e c (λ i l. refl) k in
    (λ x. elim (h.0 x) [ inl y ↦ absurd y | inr y ↦ y ], λ x. h.1 (inr x))

-- the law, for parts that do not overlap
by_parts : (B : Plans) (ps : List Part) (a e : ℕ) → Apart a ps e → (ds : List ℕ) (u : Sample) → Leads (series B ps nothing) ds u ↔ PartByPart B ps ds u
by_parts B ps a e c ds u = (parted, joined_up)
  where
    parted : Leads (series B ps nothing) ds u → PartByPart B ps ds u
    parted l =
        let g = gone B ps nothing ds u l in record {
          runs = g.runs;
          through = g.through;
          throws_are = g.throws_are;
          units_are = subst (λ (w : Sample). (k : ℕ) → T (w k) ↔ InSome ps g.runs k) g.outcome_is (union_is ps g.runs a e c);
        }

    joined_up : PartByPart B ps ds u → Leads (series B ps nothing) ds u
    joined_up h =
        let same : collected ps h.runs nothing ≡ u =
        same_units (collected ps h.runs nothing) u
        (λ k. let x = union_is ps h.runs a e c k in let y = h.units_are k in (λ z. y.1 (x.0 z), λ z. x.1 (y.0 z))) in
        subst (λ (w : Sample). Leads (series B ps nothing) ds w) same
        (subst (λ (xs : List ℕ). Leads (series B ps nothing) xs (collected ps h.runs nothing)) (sym h.throws_are) (road_of B ps h.runs nothing h.through))

pub series_roads : SeriesRoads
series_roads B alike sample list c ds u =
    by_parts B (chosen c 0 (parts alike sample list)) 0 (length list) (apart_chosen c 0 0 (parts alike sample list) (length list) (apart_parts alike sample list)) ds u
