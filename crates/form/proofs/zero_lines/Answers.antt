-- `form::zero_lines` meets its contract: each line's default is 0; what is said of the lines from one on is the fact of that line and of those after it. Assumes nothing.
use Rattle.lines.specs.Worksheet.{zero_lines}
use Rattle.form.proofs.zero_lines.Goals as goal

pub returns : goal.returns
unfolding zero_lines
returns c =
    let d01 = c.default.ensures in
    let d02 = d01.1 in
    let d03 = d02.1 in
    let d04 = d03.1 in
    let d05 = d04.1 in
    let d06 = d05.1 in
    let d07 = d06.1 in
    let d08 = d07.1 in
    let d09 = d08.1 in
    let d10 = d09.1 in
    let d11 = d10.1 in
    let d12 = d11.1 in
    let d13 = d12.1 in
    let d14 = d13.1 in
    let d15 = d14.1 in
    let d16 = d15.1 in
    let d17 = d16.1 in
    let d18 = d17.1 in
    let d19 = d18.1 in
    let d20 = d19.1 in
    let d21 = d20.1 in
    let d22 = d21.1 in
    let d23 = d22.1 in
    let d24 = d23.1 in
    let d25 = d24.1 in
    let d26 = d25.1 in
    let d27 = d26.1 in
    let d28 = d27.1 in
    let d29 = d28.1 in
    let d30 = d29.1 in
    let d31 = d30.1 in
    let d32 = d31.1 in
    let d33 = d32.1 in
    let d34 = d33.1 in
    let d35 = d34.1 in
    let d36 = d35.1 in
    let d37 = d36.1 in
    let d38 = d37.1 in
    let d39 = d38.1 in
    let d40 = d39.1 in
    let d41 = d40.1 in
    let d42 = d41.1 in
    let d43 = d42.1 in
    let d44 = d43.1 in
    let d45 = d44.1 in
    let d46 = d45.1 in
    let d47 = d46.1 in
    let d48 = d47.1 in
    let d49 = d48.1 in
    let d50 = d49.1 in
    let d51 = d50.1 in
    let d52 = d51.1 in
    let d53 = d52.1 in
    let d54 = d53.1 in
    let d55 = d54.1 in
    let d56 = d55.1 in
    let d57 = d56.1 in
    let d58 = d57.1 in
    let d59 = d58.1 in
    let d60 = d59.1 in
    let d61 = d60.1 in
    λ i. record { l01 = record { 0 = d01.0 i }; l02 = record { 0 = d02.0 i }; l03 = record { 0 = d03.0 i }; l04 = d04.0 i; l05 = record { 0 = d05.0 i }; l06 = record { 0 = d06.0 i }; l07 = record { 0 = d07.0 i }; l08 = record { 0 = d08.0 i }; l09 = record { 0 = d09.0 i }; l10 = d10.0 i; l11 = record { 0 = d11.0 i }; l12 = record { 0 = d12.0 i }; l13 = record { 0 = d13.0 i }; l14 = record { 0 = d14.0 i }; l15 = record { 0 = d15.0 i }; l16 = record { 0 = d16.0 i }; l17 = record { 0 = d17.0 i }; l18 = record { 0 = d18.0 i }; l19 = record { 0 = d19.0 i }; l20 = record { 0 = d20.0 i }; l21 = record { 0 = d21.0 i }; l22 = record { 0 = d22.0 i }; l23 = record { 0 = d23.0 i }; l24 = record { 0 = d24.0 i }; l25 = record { 0 = d25.0 i }; l26 = record { 0 = d26.0 i }; l27 = record { 0 = d27.0 i }; l28 = record { 0 = d28.0 i }; l29 = record { 0 = d29.0 i }; l30 = record { 0 = d30.0 i }; l31 = record { 0 = d31.0 i }; l32 = record { 0 = d32.0 i }; l33 = record { 0 = d33.0 i }; l34 = record { 0 = d34.0 i }; l35 = record { 0 = d35.0 i }; l36 = record { 0 = d36.0 i }; l37 = record { 0 = d37.0 i }; l38 = record { 0 = d38.0 i }; l39 = record { 0 = d39.0 i }; l40 = record { 0 = d40.0 i }; l41 = record { 0 = d41.0 i }; l42 = record { 0 = d42.0 i }; l43 = record { 0 = d43.0 i }; l44 = record { 0 = d44.0 i }; l45 = record { 0 = d45.0 i }; l46 = record { 0 = d46.0 i }; l47 = record { 0 = d47.0 i }; l48 = record { 0 = d48.0 i }; l49 = record { 0 = d49.0 i }; l50 = record { 0 = d50.0 i }; l51 = record { 0 = d51.0 i }; l52 = record { 0 = d52.0 i }; l53 = record { 0 = d53.0 i }; l54 = record { 0 = d54.0 i }; l55 = record { 0 = d55.0 i }; l56 = record { 0 = d56.0 i }; l57 = record { 0 = d57.0 i }; l58 = record { 0 = d58.0 i }; l59 = record { 0 = d59.0 i }; l60 = record { 0 = d60.0 i }; l61 = record { 0 = d61 i } }
