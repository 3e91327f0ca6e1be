-- The accounts that a bill closes.
use Rattle.std.proofs.Common.{◌≡◌, ℕ, zero, suc, ◌+◌, ◌<◌, ◌≤◌, List, [], ◌∷◌, ◌++◌, map, length, get_or, take, drop, set, ℤ, pos, ◌+ℤ◌, sym, refl, ap, ◌∙◌, arith}
use lib.ListN.{get_or-map}
use denote.Param.Members.{Mut, Called}
use Rattle.std.specs.Array.{IsMapOf}
use Rattle.std.proofs.lemmas.List.{length-map, same_lists, get_or_default}
use Rattle.statement.specs.declared.charge.ComponentCharge.{ComponentCharge}
use Rattle.tariff.specs.Heads.{sums}
use Rattle.tariff.proofs.Sums.{sums_at, sums_length}
use Rattle.ledger.specs.declared.account.Account.{Account}
use Rattle.ledger.specs.declared.accounts.Accounts.{Accounts}
use Rattle.ledger.specs.States.{balances, account_at}
use Rattle.ledger.specs.Billing.{billed_account, billed_accounts}
use Rattle.ledger.proofs.Overwritten.{over_at, over_more, over_end}

abbrev pub no_account : Account
no_account = record { balance = pos 0; pools = [] }

abbrev pub no_charge : ComponentCharge
no_charge = record { pool = pos 0; units = 0; balance = pos 0 }

pub balance_at : (s : Accounts) (c : ℕ) → get_or (balances s) c (pos 0) ≡ (account_at s c).balance
balance_at s c = get_or-map (λ (a : Account). a.balance) s.rows c no_account

pub pool_at : (costs : List ℤ) (s : Accounts) (c : ℕ) → length costs ≡ length s.rows → c < length costs
    → get_or (sums costs (balances s)) c (pos 0) ≡ get_or costs c (pos 0) +ℤ (account_at s c).balance
pool_at costs s c e l =
    sums_at costs (balances s) c l (omega (arith, length-map s.rows (λ (a : Account). a.balance)))
    ∙ ap (λ (z : ℤ). get_or costs c (pos 0) +ℤ z) (balance_at s c)

pub pools_length : (costs : List ℤ) (s : Accounts) → length costs ≡ length s.rows → length (sums costs (balances s)) ≡ length costs
pools_length costs s e = sums_length costs (balances s) (omega (arith, length-map s.rows (λ (a : Account). a.balance)))

pub billed_length : (slot : ℕ) (charges : List ComponentCharge) (rows : List Account) → length charges ≡ length rows → length (billed_accounts slot charges rows) ≡ length rows
billed_length slot [] [] e = refl
billed_length slot [] (a ∷ rows) e = absurd (omega arith)
billed_length slot (x ∷ charges) [] e = absurd (omega arith)
billed_length slot (x ∷ charges) (a ∷ rows) e = ap suc (billed_length slot charges rows (omega arith))

pub billed_at : (slot : ℕ) (charges : List ComponentCharge) (rows : List Account) (c : ℕ) → length charges ≡ length rows → c < length rows
    → get_or (billed_accounts slot charges rows) c no_account ≡ billed_account slot (get_or charges c no_charge) (get_or rows c no_account)
billed_at slot [] [] c e l = absurd (omega arith)
billed_at slot [] (a ∷ rows) c e l = absurd (omega arith)
billed_at slot (x ∷ charges) [] c e l = absurd (omega arith)
billed_at slot (x ∷ charges) (a ∷ rows) zero e l = refl
billed_at slot (x ∷ charges) (a ∷ rows) (suc c) e l = billed_at slot charges rows c (omega arith) (omega arith)

-- the accounts closed so far, followed by those that are left
abbrev pub Closing : ℕ → List ComponentCharge → List Account → ℕ → List Account → Type 0
Closing slot charges rows i now = now ≡ take i (billed_accounts slot charges rows) ++ drop i rows

module _ (slot : ℕ) (charges : List ComponentCharge) (rows : List Account) (lc : length charges ≡ 13) (lr : length rows ≡ 13) (i : ℕ) (now : List Account) (inv : Closing slot charges rows i now) where
  same : length (billed_accounts slot charges rows) ≡ length rows
  same = billed_length slot charges rows (omega arith)

  pub closing_at : i < 13 → get_or now i no_account ≡ get_or rows i no_account
  closing_at l = over_at no_account (billed_accounts slot charges rows) rows same now i (omega arith) inv

  pub closing_more : (x : Account) → i < 13 → x ≡ billed_account slot (get_or charges i no_charge) (get_or now i no_account) → Closing slot charges rows (i + 1) (set now i x)
  closing_more x l e =
      over_more no_account (billed_accounts slot charges rows) rows same now i x (omega arith)
      (e ∙ ap (billed_account slot (get_or charges i no_charge)) (closing_at l) ∙ sym (billed_at slot charges rows i (omega arith) (omega arith))) inv

  pub closing_end : 13 ≤ i → now ≡ billed_accounts slot charges rows
  closing_end l = over_end no_account (billed_accounts slot charges rows) rows same now i (omega arith) inv

-- an array of what a function gives of each element of another
pub map_of : {F A B : Type 0} (g : Mut F (A × Unit {0}) B) (h : A → B) (d : A) (f : F) (xs : List A) (ys : List B) (n : ℕ) → length xs ≡ n → ((p q : F) (x : A) (y : B) → Called g p (x, tt) y q → y ≡ h x) → IsMapOf g f xs ys n
    → ys ≡ map h xs
map_of g h d f xs ys n e k m =
    let l = length-map xs h in
    same_lists ys (map h xs) (omega (arith, m.long, e, l))
    (λ i b w.
    let c = m.at i d (h d) (omega (arith, m.long)) in
    get_or_default ys i b (h d) (omega arith) ∙ k c.0 c.1 _ _ c.2 ∙ sym (get_or-map h xs i d) ∙ get_or_default (map h xs) i (h d) b (omega (arith, m.long, e, l)))
