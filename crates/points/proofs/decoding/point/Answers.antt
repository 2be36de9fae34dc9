-- `points::decoding::point` meets its contract. Assumes nothing.
use native.Mathlib.Omega.{arith}
use Rattle.points.proofs.Decoded.{point_one, point_two, point_three, point_four}
use Rattle.points.proofs.decoding.point.Goals as goal

pub returns-in-0-to-191 : goal.returns-in-0-to-191
returns-in-0-to-191 c = let e = point_one c.args.a c.args.b c.args.c c.args.d (omega arith) in cc

pub returns-in-192-to-223 : goal.returns-in-192-to-223
returns-in-192-to-223 c = let e = point_two c.args.a c.args.b c.args.c c.args.d (omega arith) (omega arith) in cc

pub returns-in-224-to-239 : goal.returns-in-224-to-239
returns-in-224-to-239 c = let e = point_three c.args.a c.args.b c.args.c c.args.d (omega arith) (omega arith) in cc

pub returns-in_default : goal.returns-in_default
returns-in_default c = let e = point_four c.args.a c.args.b c.args.c c.args.d (omega arith) in cc
