mod SmallSources
