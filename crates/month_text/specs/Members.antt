-- The `user` lines: one for each member, by rising account.
use Rattle.std.specs.Prelude.{ℕ, zero, suc, ◌+◌, ◌-◌, Bool, cond, ◌&&◌, List, [], ◌∷◌, ◌++◌, drop, replicate, codes, nat_le, nat_lt, slice_index}
use Rattle.refusal.specs.Answers.{Answer, next}
use Rattle.units.specs.Kinds.{facts_of, lawful}
use Rattle.month_text.specs.declared.month.Member.{Member}
use Rattle.month_text.specs.Ranges.{out_of_range, naturals_at}
use Rattle.limits.specs.declared.TheConstants.{MOST_ACCOUNT, MOST_FACT, MOST_TEXT_MEMBERS}

-- the account, and then the eleven facts
abbrev pub member_of : List ℕ → Member
member_of row = record { account = slice_index row 0; facts = facts_of (drop 1 row) }

-- what stands in the places that no member has
abbrev pub blank : Member
blank = member_of []

-- an account of 1 to 999,999 that is above the last one, with lawful facts
abbrev pub member_lawful : ℕ → Member → Bool
member_lawful last m = nat_lt last m.account && (nat_le m.account MOST_ACCOUNT && lawful m.facts)

abbrev pub member_at : ℕ → ℕ → List ℕ → Answer (Member × List ℕ)
member_at line last s =
    next (naturals_at (codes "user") 12 0 MOST_FACT line s) (λ p.
    cond (member_lawful last (member_of p.0)) (Answer.done (member_of p.0, p.1)) (out_of_range line))

-- so many members, the first at the given line
abbrev pub members_at : ℕ → ℕ → ℕ → List ℕ → Answer (List Member × List ℕ)
members_at zero line last s = Answer.done ([], s)
members_at (suc left) line last s =
    next (member_at line last s) (λ p.
    next (members_at left (line + 1) p.0.account p.1) (λ q. Answer.done (p.0 ∷ q.0, q.1)))

-- the members from line 9 on, in 32 places
abbrev pub places_at : ℕ → List ℕ → Answer (List Member × List ℕ)
places_at count s =
    next (members_at count 9 0 s) (λ p. Answer.done (p.0 ++ replicate (MOST_TEXT_MEMBERS - count) blank, p.1))
