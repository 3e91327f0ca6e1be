-- No definitions: what the laws of every rule need.
use Rattle.std.specs.Prelude.{◌≡◌, ℕ, zero, suc, ◌≤◌, true, false, ◌&&◌, List, [], ◌∷◌, map, length, ℤ, pos, nat_le, slice_index, slice_index_or, unsigned_abs, refl}
use Rattle.std.proofs.Common.{sym, ap, subst, ◌∙◌}
use Rattle.std.proofs.lemmas.List.{length-replicate}
use Rattle.std.proofs.lemmas.Bool.{and_parts, leb-true, cond-true, cond-false, cond_both}
use Rattle.sharing.specs.Domain.{in_domain, shareable}
use Rattle.sharing.specs.Shares.{shared, no_shares}
use Rattle.sharing.specs.Tolerance.{EachNear}
use Rattle.limits.specs.declared.TheConstants.{MOST_CENTS, MOST_UNITS}

-- what can be shared, number by number
pub in_domain_lem : (p : ℤ) (t : ℕ) → in_domain p t ≡ true → (unsigned_abs p ≤ MOST_CENTS) × (1 ≤ t) × (t ≤ MOST_UNITS)
in_domain_lem p t e =
    let a = and_parts (nat_le (unsigned_abs p) MOST_CENTS) (nat_le 1 t && nat_le t MOST_UNITS) e in
    let b = and_parts (nat_le 1 t) (nat_le t MOST_UNITS) a.1 in
    (leb-true (unsigned_abs p) MOST_CENTS a.0, leb-true 1 t b.0, leb-true t MOST_UNITS b.1)

-- where nothing is shared, each place has 0
pub none_at : (us : List ℕ) (m : ℕ) → slice_index_or (no_shares us) m (pos 0) ≡ pos 0
none_at [] m = refl
none_at (u ∷ us) zero = refl
none_at (u ∷ us) (suc m) = none_at us m

-- shares of a function of each member's units that takes 0 to 0, at each place and past the end
pub map_at : (f : ℕ → ℤ) → f 0 ≡ pos 0 → (us : List ℕ) (m : ℕ) → slice_index_or (map f us) m (pos 0) ≡ f (slice_index us m)
map_at f e [] m = sym e
map_at f e (u ∷ us) zero = refl
map_at f e (u ∷ us) (suc m) = map_at f e us m

pub map_unused : (f : ℕ → ℤ) (us : List ℕ) (m : ℕ) → f 0 ≡ pos 0 → slice_index us m ≡ 0 → slice_index_or (map f us) m (pos 0) ≡ pos 0
map_unused f us m z e = map_at f z us m ∙ ap f e ∙ z

-- shares where they can be made, and else 0 for each member: what each law asks of them
pub shared_is : (p : ℤ) (us : List ℕ) (ss : List ℤ) → shareable p us ≡ true → shared p us ss ≡ ss
shared_is p us ss e = cond-true (shareable p us) ss (no_shares us) e

pub shared_long : (p : ℤ) (us : List ℕ) (ss : List ℤ) → length ss ≡ length us → length (shared p us ss) ≡ length us
shared_long p us ss e =
    cond_both (shareable p us) ss (no_shares us) (λ xs. length xs ≡ length us) (λ _. e) (λ _. length-replicate (length us) (pos 0))

pub shared_idle : (p : ℤ) (us : List ℕ) (ss : List ℤ) → shareable p us ≡ false → shared p us ss ≡ no_shares us
shared_idle p us ss e = cond-false (shareable p us) ss (no_shares us) e

pub shared_fair : (d : ℕ) (p : ℤ) (us : List ℕ) (ss : List ℤ) → shareable p us ≡ true → EachNear d p us ss → EachNear d p us (shared p us ss)
shared_fair d p us ss e h = subst (EachNear d p us) (sym (shared_is p us ss e)) h

pub shared_unused : (p : ℤ) (us : List ℕ) (ss : List ℤ) (m : ℕ) → slice_index_or ss m (pos 0) ≡ pos 0
    → slice_index_or (shared p us ss) m (pos 0) ≡ pos 0
shared_unused p us ss m e =
    cond_both (shareable p us) ss (no_shares us) (λ xs. slice_index_or xs m (pos 0) ≡ pos 0) (λ _. e) (λ _. none_at us m)
