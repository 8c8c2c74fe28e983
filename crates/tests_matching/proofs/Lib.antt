mod SmallCases
