use Rattle.std.proofs.Common.{◌≡◌, ℕ, ◌*◌, ◌<◌, ◌≤◌, true, length, get_or, pos, nat_abs, sum, arith, rules}
use Rattle.std.proofs.lemmas.Grind.{common_steps}
use Rattle.sharing.specs.Domain.{shareable}
use Rattle.sharing.proofs.Members.{map_from_places}
use Rattle.rule_cases.specs.Exact.{exact_share}
use Rattle.rule_cases.proofs.Products.{product_small}
use Rattle.limits.specs.declared.TheConstants.{MOST_CENTS, MOST_UNITS}
use Rattle.rule_cases.proofs.exact.ExactRule.share.Goals as goal

pub write_shares-requires : goal.write_shares-requires
write_shares-requires c =
    record {
      callable = λ m l.
          let e : shareable c.args.pool c.args.units.now ≡ true = grind (arith, common_steps) in
          let r : nat_abs c.args.pool * get_or c.args.units.now m 0 ≤ MOST_CENTS * MOST_UNITS = product_small c.args.pool c.args.units.now e m in
          search rules;
    }

pub returns-in-Some : goal.returns-in-Some
returns-in-Some c =
    let n : length c.args.units.now ≡ length c.total_or_clear.new.out = grind (arith, common_steps) in
    let d : (m : ℕ) → m < length c.args.units.now → get_or c.write_shares.new.out m (pos 0) ≡ exact_share c.args.pool c.in-Some.total (get_or c.args.units.now m 0) = λ m l. let h = c.write_shares.ensures.shares n m l in search rules in
    let e = map_from_places (exact_share c.args.pool c.in-Some.total) c.args.units.now c.write_shares.new.out (grind (arith, common_steps)) d in
    let t : c.in-Some.total ≡ sum c.args.units.now = grind (arith, common_steps) in
    grind (arith, common_steps)
