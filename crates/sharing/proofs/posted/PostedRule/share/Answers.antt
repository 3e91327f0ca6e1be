use Rattle.std.proofs.Common.{◌≡◌, ℕ, ◌*◌, ◌<◌, ◌≤◌, true, length, get_or, pos, nat_abs, sum, arith, rules}
use Rattle.std.proofs.lemmas.Grind.{common_steps}
use Rattle.sharing.specs.Domain.{shareable}
use Rattle.sharing.specs.Posted.{posted_rate, posted_share}
use Rattle.sharing.proofs.Rates.{rate_fits}
use Rattle.sharing.proofs.Members.{map_from_places}
use Rattle.sharing.proofs.posted.PostedRule.share.Goals as goal

pub write_shares-requires : goal.write_shares-requires
write_shares-requires c =
    record {
      callable = λ m l.
          let e : shareable c.args.pool c.args.units.now ≡ true = grind (arith, common_steps) in
          let q : c.posted_rate-rate.result ≡ posted_rate c.args.pool (sum c.args.units.now) = grind (arith, common_steps) in
          let r : nat_abs c.posted_rate-rate.result * get_or c.args.units.now m 0 ≤ 1000000000000 = rw q (rate_fits c.args.pool c.args.units.now e m) in
          search rules;
    }

pub returns-in-Some : goal.returns-in-Some
returns-in-Some c =
    let n : length c.args.units.now ≡ length c.total_or_clear.new.out = grind (arith, common_steps) in
    let d : (m : ℕ) → m < length c.args.units.now → get_or c.write_shares.new.out m (pos 0) ≡ posted_share c.posted_rate-rate.result (get_or c.args.units.now m 0) = λ m l. let h = c.write_shares.ensures.shares n m l in search rules in
    let e = map_from_places (posted_share c.posted_rate-rate.result) c.args.units.now c.write_shares.new.out (grind (arith, common_steps)) d in
    let q : c.posted_rate-rate.result ≡ posted_rate c.args.pool (sum c.args.units.now) = grind (arith, common_steps) in
    grind (arith, common_steps)
