-- The bench sign, on which scripts run that name no other (this profile).
use Rattle.std.specs.Prelude.{ℕ, List, ◌++◌, codes}

unfoldable pub bench_text : List ℕ
bench_text =
    codes "size 23 14\n"
    ++ codes "communities public admin\n"
    ++ codes "rows 2 1\n"
    ++ codes "order high\n"
    ++ codes "has 1 0\n"
    ++ codes "defaults 0 9 5 5 1 3 2 30 0\n"
    ++ codes "first 1\n"
    ++ codes "permanent 42 - 0 0 100\n"
    ++ codes "font 1 height 7 space 1 line 1 version 0001\n"
    ++ codes "glyph 49 2 7554\n"
    ++ codes "glyph 65 5 7463f8c620\n"
    ++ codes "glyph 66 5 f463e8c7c0\n"
    ++ codes "glyph 91 3 f24938\n"
    ++ codes "glyph 93 3 e49278\n"
    ++ codes "font 2 height 5 space 1 line 1 version 0002\n"
    ++ codes "glyph 65 3 57da\n"
    ++ codes "end\n"
