-- What the laws of a rule say of a share that is on file.
use Rattle.std.proofs.Common.{◌≡◌, ℕ, ◌<◌, ◌≤◌, true, leb, List, length, get_or, ℤ, pos, nat_abs, sum, sym, ◌∙◌, subst}
use Rattle.std.proofs.lemmas.Bool.{and_from, le-leb}
use Rattle.tariff.specs.Heads.{at}
use Rattle.sharing.specs.Domain.{shareable}
use Rattle.sharing.specs.Tolerance.{Near}
use Rattle.sharing.proofs.Lawful.{Fair}
use Rattle.ledger.specs.Kept.{Terms}
use Rattle.limits.specs.declared.TheConstants.{MOST_CENTS, MOST_UNITS}

-- the laws of the rule that a ledger was opened with
pub record LawfulRule (t : Terms) : Type 0 where
  pub stepped : t.step ≤ 100
  pub long : (p : ℤ) (us : List ℕ) → length (t.shares p us) ≡ length us
  pub fair : (p : ℤ) (us : List ℕ) → Fair t.step p us (t.shares p us)
  pub unused : (p : ℤ) (us : List ℕ) (m : ℕ) → get_or us m 0 ≡ 0 → at (t.shares p us) m ≡ pos 0

module _ (t : Terms) (law : LawfulRule t) (p : ℤ) (us : List ℕ) (m : ℕ) (x : ℤ) (e : x ≡ at (t.shares p us) m) where
  pub none_unused : get_or us m 0 ≡ 0 → x ≡ pos 0
  none_unused z = e ∙ law.unused p us m z

  pub some_near : nat_abs p ≤ MOST_CENTS → sum us ≤ MOST_UNITS → 0 < sum us → Near t.step p (sum us) (get_or us m 0) x
  some_near hp hu u =
      let in' : shareable p us ≡ true = and_from (leb (nat_abs p) MOST_CENTS) _ (le-leb (nat_abs p) MOST_CENTS hp) (and_from (leb 1 (sum us)) (leb (sum us) MOST_UNITS) (le-leb 1 (sum us) u) (le-leb (sum us) MOST_UNITS hu)) in
      subst (Near t.step p (sum us) (get_or us m 0)) (sym e) (law.fair p us in' m)
